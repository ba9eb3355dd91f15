-- What a log tells, where it tells it.
use Rattle.std.proofs.Common.{◌≡◌, Option, Some, None, refl, subst, IfSome, Result, Ok, Err, IfErr}
use Rattle.std.specs.Option.{ForSome}

pub if_some : {A : Type 0} (o : Option A) (P : A → Type 0) (x : A) → IfSome o P → o ≡ Some x → P x
if_some o P x h e = subst (λ p. IfSome p P) e h

pub for_some : {A : Type 0} (o : Option A) (P : A → Type 0) → ForSome o P → IfSome o P
for_some None P h = tt
for_some (Some x) P h = h x refl

pub err_then : {T E : Type 0} (r : Result T E) {P Q : E → Type 0} → ((e : E) → P e → Q e) → IfErr r P → IfErr r Q
err_then (Ok value) f h = tt
err_then (Err e) f h = f e h
