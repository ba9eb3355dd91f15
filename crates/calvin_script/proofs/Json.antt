-- Reading bytes as JSON.
use Rattle.std.proofs.Common.{◌≡◌, ℕ, List, Bool, true, false, Option, Some, None, Ok, Err, IsUtf8, refl, if◌then◌else◌}
use Rattle.std.specs.Prelude.{ok_or}
use Rattle.std.specs.Str.{is_utf8}
use Rattle.std.proofs.lemmas.Str.{IsUtf8-from_is_utf8, is_utf8-from_IsUtf8}
use Rattle.serde_json.specs.Data.{Data}
use Rattle.serde_json.specs.Read.{read}
use Rattle.calvin_types.specs.declared.fault.Fault.TheVariants.{BadJson}
use Rattle.calvin_script.specs.Reading.{json}

pub json_read : (bytes : List ℕ) (d : Data) → IsUtf8 bytes → read bytes ≡ Some d → json bytes ≡ Ok d
unfolding json
json_read bytes d u e = rw (is_utf8-from_IsUtf8 bytes u, e) refl

refused_at : (b : Bool) (r : Option Data) → (b ≡ true → r ≡ None) → (if b then ok_or r BadJson else Err BadJson) ≡ Err BadJson
refused_at true r h = rw (h refl) refl
refused_at false r h = refl

pub json_refused : (bytes : List ℕ) → (IsUtf8 bytes → read bytes ≡ None) → json bytes ≡ Err BadJson
unfolding json
json_refused bytes h = refused_at (is_utf8 bytes) (read bytes) (λ e. h (IsUtf8-from_is_utf8 bytes e))
