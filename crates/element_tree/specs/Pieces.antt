-- Bytes that are cut piece by piece. This project's own.
use Rattle.std.specs.Prelude.{ℕ, zero, suc, List, [], ◌∷◌, length, Option, Some, None}

-- the first part, where there is one, and then what follows it
infixl 10 ◌>>?◌
abbrev pub ◌>>?◌ : {A B : Type 0} → Option A → (A → Option B) → Option B
(Some x) >>? f = f x
None >>? f = None

-- a piece that was cut off, before those that are cut from its rest
abbrev pub or_end : {X : Type 0}
    → List ℕ → (List ℕ → List X × List ℕ) → Option (X × List ℕ) → List X × List ℕ
or_end bytes again None = ([], bytes)
or_end bytes again (Some x) = (x.0 ∷ (again x.1).0, (again x.1).1)

unfoldable pub pieces_within : {X : Type 0}
    → (List ℕ → Option (X × List ℕ)) → ℕ → List ℕ → List X × List ℕ
pieces_within cut zero bytes = ([], bytes)
pieces_within cut (suc n) bytes = or_end bytes (pieces_within cut n) (cut bytes)

-- The pieces that are cut from the front of the bytes, one after the other, and the rest from
-- which none can be cut.
unfoldable pub pieces : {X : Type 0} → (List ℕ → Option (X × List ℕ)) → List ℕ → List X × List ℕ
pieces cut bytes = pieces_within cut (length bytes) bytes
