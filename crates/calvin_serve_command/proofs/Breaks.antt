-- A heading has no line feed.
use Rattle.std.proofs.Common.{◌≡◌, ◌+◌, ◌<◌, ◌^◌, ◌||◌, ◌==◌, ℕ, List, [], ◌∷◌, ◌++◌, Bool, true, false, map, codes, decimal, refl, sym, subst, arith}
use Rattle.std.proofs.lemmas.Bool.{true≢false, ne_eqb}
use Rattle.std.proofs.lemmas.Fmt.{decimal-digits_of}
use Rattle.std.specs.Int.Digits.{digits_of}
use Rattle.calvin_serial.specs.declared.undeclared.UndeclaredSets.{UndeclaredSets}
use Rattle.calvin_serial.specs.declared.undeclared.UndeclaredSets.TheVariants.{First, Scouted}
use Rattle.calvin_journal.specs.Lines.{has_break}
use Rattle.calvin_serve_desk.specs.declared.setting.Setting.{Setting}
use Rattle.calvin_script.specs.declared.reading.AppName.{AppName}
use Rattle.calvin_script.specs.declared.reading.AppName.TheVariants.{Kv, Stock, Once}
use Rattle.calvin_serve_command.specs.Headings.{name_of, scout_text, heading}

abbrev IsLine : List ℕ → Type 0
IsLine xs = has_break xs ≡ false

further : (a b c : Bool) → (a || b) ≡ false → (b ≡ false → c ≡ false) → (a || c) ≡ false
further true b c e f = absurd (true≢false e)
further false b c e f = f e

joined : (xs ys : List ℕ) → IsLine xs → IsLine ys → IsLine (xs ++ ys)
joined [] ys e f = f
joined (x ∷ xs) ys e f = further (x == 10) (has_break xs) (has_break (xs ++ ys)) e (λ rest. joined xs ys rest f)

digits_line : (ds : List ℕ) → IsLine (map (λ d. 48 + d) ds)
digits_line [] = refl
digits_line (d ∷ ds) = rw (ne_eqb (48 + d) 10 (λ e. omega arith)) (digits_line ds)

number_line : (n : ℕ) → 0 < n → n < 2 ^ 64 → IsLine (decimal n)
number_line n h k = subst IsLine (sym (decimal-digits_of n h k)) (digits_line (digits_of 10 n))

name_line : (application : AppName) → IsLine (name_of application)
name_line Kv = refl
name_line Stock = refl
name_line Once = refl

scout_line : (sets : UndeclaredSets) → IsLine (scout_text sets)
scout_line First = refl
scout_line Scouted = refl

seven : (a b c d e f g : List ℕ) → IsLine a → IsLine b → IsLine c → IsLine d → IsLine e → IsLine f → IsLine g → IsLine (a ++ b ++ c ++ d ++ e ++ f ++ g)
seven a b c d e f g ha hb hc hd he hf hg =
    joined (a ++ b ++ c ++ d ++ e ++ f) g (joined (a ++ b ++ c ++ d ++ e) f (joined (a ++ b ++ c ++ d) e (joined (a ++ b ++ c) d
    (joined (a ++ b) c (joined a b ha hb) hc) hd) he) hf) hg

pub heading_line : (application : AppName) (setting : Setting) → 0 < setting.partitions → setting.partitions < 2 ^ 64 → IsLine (heading application setting)
heading_line application setting h k =
    seven (codes "{\"journal\":1,\"partitions\":") (decimal setting.partitions) (codes ",\"app\":\"") (name_of application) (codes "\",\"scout\":") (scout_text setting.sets) (codes "}")
    refl (number_line setting.partitions h k) refl (name_line application) refl (scout_line setting.sets) refl
