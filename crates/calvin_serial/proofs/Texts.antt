-- What is answered to a script.
use Rattle.std.proofs.Common.{◌≡◌, List, Vec, Global, ℕ, Result, Ok, Err, IfOk, IsOkUnless, ◌∙◌}
use Rattle.calvin_types.specs.declared.fault.Fault.{Fault}
use Rattle.calvin_types.specs.declared.fault.Fault.TheVariants.{OutOfMemory}
use Rattle.calvin_script.specs.Reading.{Reads}

-- a text, unless memory runs out
pub text_reads : (result : Result (Vec ℕ Global) Fault) (read text : Result (List ℕ) Fault) → read ≡ text → IfOk result (λ t. text ≡ Ok t.items) → IsOkUnless result OutOfMemory → Reads (λ t. t.items) result read
text_reads (Ok t) read text is same only = is ∙ same
text_reads (Err fault) read text is same only = rw only tt
