-- What was read to the end is all that there was.
--     for_all_read      what holds of the bytes that were read holds of what is known to have been there
use Rattle.std.proofs.Common.{◌≡◌, ℕ, List, [], ◌++◌, Option, Some, None, IfSome, sym, ap, subst, ◌∙◌}
use Rattle.std.specs.Io.KnownBytes.{Consumes, IsAtEnd}
use Rattle.std.proofs.lemmas.List.{append-nil}

pub for_all_read : (P : List ℕ → Type 0) (before after : Option (List ℕ)) (bytes : List ℕ) → Consumes before after bytes → IsAtEnd after → P bytes → IfSome before P
for_all_read P None after bytes read end holds = tt
for_all_read P (Some all) None bytes read end holds = absurd read
for_all_read P (Some all) (Some rest) bytes read end holds = subst P (sym (read ∙ ap (λ l. bytes ++ l) end ∙ append-nil bytes)) holds
