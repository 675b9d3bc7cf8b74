-- How inputs are had one after the other.
use Rattle.std.proofs.Common.{◌≡◌, inl, inr, ℕ, List, [], ◌∷◌, ◌++◌, Option, Result, Ok, Err, IfSome, refl, ◌∙◌, ap, subst, arith}
use Rattle.outside_io.specs.Outside.{Files, Rose}
use Rattle.command_outcome.specs.declared.outcome.Role.{Role}
use Rattle.command_outcome.specs.declared.outcome.Stop.{Stop}
use Rattle.command_outcome.specs.declared.outcome.Stop.TheVariants as stop
use Rattle.command_outcome.specs.Inputs.{Halt, refusal, Inputs, and_then, given, gives, in_role, tested, Reaches, ◌>>=◌}
use Rattle.command_outcome.specs.Ends.{Shelf, Stands, LoadFailed, LoadingStops, Has, TestStops}
use Rattle.command_outcome.proofs.Options.{each_some, join_some, map_some}

pub unchanged : (old : Shelf) → Stands old old
unchanged old = record { held = refl; faults = refl; failed = refl }

-- one step after the other
pub along : (old mid new : Shelf) → Stands old mid → Stands mid new → Stands old new
along old mid new a b = record { held = b.held ∙ a.held; faults = b.faults ∙ a.faults; failed = b.failed ∙ a.failed }

failed_after : (old mid new : Shelf) (name : List ℕ) → Stands old mid → LoadFailed mid new name → LoadFailed old new name
failed_after old mid new name a b = record {
  held = b.held ∙ a.held;
  rose = subst (λ before. Rose before new.faults) a.faults b.rose;
  failed = b.failed ∙ ap (λ (l : List (List ℕ)). l ++ name ∷ []) a.failed;
}

-- what was read is tested, and the files stay
module _ {A : Type 0} (role : Role) (told : Result A (Option (List ℕ))) (old : Shelf) where
  pub has_tested : (x : A) → told ≡ Ok x → Has (tested role told) old old x
  has_tested x is = record { stands = unchanged old; gives = each_some old.held (λ files. gives (tested role told) files ≡ Ok x) (λ files held. ap (in_role role) is) }

  pub test_stops : (end : Stop) → TestStops role told end → LoadingStops (tested role told) old old end
  test_stops stop.NoMemory h = unchanged old
  test_stops (stop.Ended e text) h = (h.0, unchanged old, each_some old.held (λ files. gives (tested role told) files ≡ Err (refusal text.items)) (λ files held. h.1))
  test_stops (stop.Unread r) h = absurd h
  test_stops stop.Unsaved h = absurd h

module _ {A B : Type 0} (earlier : Inputs A) (f : A → Inputs B) where
  -- the earlier inputs can't be had
  pub stops_at_once : (old new : Shelf) (end : Stop) → LoadingStops earlier old new end → LoadingStops (earlier >>= f) old new end
  stops_at_once old new stop.NoMemory h = h
  stops_at_once old new (stop.Unread role) h = record { name = h.name; reached = inl h.reached; load = h.load }
  stops_at_once old new (stop.Ended e text) h = (h.0, h.1, map_some old.held (λ files told is. ap (λ q. and_then q (λ x. gives (f x) files)) is) h.2)
  stops_at_once old new stop.Unsaved h = absurd h

  module _ (old mid new : Shelf) (x : A) (had : Has earlier old mid x) where
    gives_both : (r : Result B Halt) → IfSome mid.held (λ files. gives (f x) files ≡ r) → IfSome old.held (λ files. gives (earlier >>= f) files ≡ r)
    gives_both r h = join_some old.held (λ files told is then. ap (λ q. and_then q (λ y. gives (f y) files)) is ∙ then) had.gives
        (subst (λ (held : Option Files). IfSome held (λ files. gives (f x) files ≡ r)) had.stands.held h)

    -- the earlier inputs are had, and the later ones can't be
    pub stops_later : (end : Stop) → LoadingStops (f x) mid new end → LoadingStops (earlier >>= f) old new end
    stops_later stop.NoMemory h = along old mid new had.stands h
    stops_later (stop.Unread role) h = record {
      name = h.name;
      reached = inr (x, had.gives, subst (λ held. Reaches (f x) held role h.name) had.stands.held h.reached);
      load = failed_after old mid new h.name had.stands h.load;
    }
    stops_later (stop.Ended e text) h = (h.0, along old mid new had.stands h.1, gives_both (Err (refusal text.items)) h.2)
    stops_later stop.Unsaved h = absurd h

    -- all are had
    pub has_both : (y : B) → Has (f x) mid new y → Has (earlier >>= f) old new y
    has_both y h = record { stands = along old mid new had.stands h.stands; gives = gives_both (Ok y) h.gives }

-- How far a call has come with its inputs: what becomes of the rest becomes of all of them.
pub record SoFar {A : Type 0} (inputs rest : Inputs A) (old mid : Shelf) : Type 0 where
  pub stops : (new : Shelf) (end : Stop) → LoadingStops rest mid new end → LoadingStops inputs old new end
  pub has : (new : Shelf) (x : A) → Has rest mid new x → Has inputs old new x

pub nothing_yet : {A : Type 0} (inputs : Inputs A) (old : Shelf) → SoFar inputs inputs old old
nothing_yet inputs old = record { stops = λ new end h. h; has = λ new x h. h }

-- one input more
pub one_more : {A B : Type 0} {inputs : Inputs B} {earlier : Inputs A} {f : A → Inputs B} {old mid new : Shelf} {x : A} → SoFar inputs (earlier >>= f) old mid → Has earlier mid new x → SoFar inputs (f x) old new
one_more {earlier = earlier} {f = f} {mid = mid} {new = new} {x = x} so_far had = record {
  stops = λ last end h. so_far.stops last end (stops_later earlier f mid new last x had end h);
  has = λ last y h. so_far.has last y (has_both earlier f mid new last x had y h);
}

-- an input that can't be had
pub none_more : {A B : Type 0} {inputs : Inputs B} {earlier : Inputs A} {f : A → Inputs B} {old mid : Shelf} → SoFar inputs (earlier >>= f) old mid → (new : Shelf) (end : Stop) → LoadingStops earlier mid new end → LoadingStops inputs old new end
none_more {earlier = earlier} {f = f} {mid = mid} so_far new end h = so_far.stops new end (stops_at_once earlier f mid new end h)

-- inputs of which nothing is left to read
pub has_given : {A : Type 0} (x : A) (at : Shelf) → Has (given x) at at x
has_given x at = record { stands = unchanged at; gives = each_some at.held (λ files. gives (given x) files ≡ Ok x) (λ files held. refl) }
