-- What is said where an option is Some.
use Rattle.std.proofs.Common.{◌≡◌, Option, None, Some, IfSome, refl}

pub map_some : {A : Type 0} {P Q : A → Type 0} (o : Option A) → ((x : A) → o ≡ Some x → P x → Q x) → IfSome o P → IfSome o Q
map_some None f h = tt
map_some (Some x) f h = f x refl h

pub join_some : {A : Type 0} {P Q R : A → Type 0} (o : Option A) → ((x : A) → o ≡ Some x → P x → Q x → R x) → IfSome o P → IfSome o Q → IfSome o R
join_some None f h k = tt
join_some (Some x) f h k = f x refl h k

pub each_some : {A : Type 0} (o : Option A) (P : A → Type 0) → ((x : A) → o ≡ Some x → P x) → IfSome o P
each_some None P f = tt
each_some (Some x) P f = f x refl
