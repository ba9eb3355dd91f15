-- Lemmas: named arguments and kept rows that compare equal are the same, where what is within them is.
--     named_exact      named arguments
--     kept_exact      rows and kept replies, by any test that goes by the rows and by the replies, as the derived one does
use Rattle.std.specs.Prelude.{◌≡◌, ◌==◌, ◌&&◌, Bool, true, false}
use Rattle.std.proofs.Common.{sym, ap, ◌∙◌}
use Rattle.std.proofs.lemmas.Bool.{eqb-true, false≢true}
use Rattle.calvin_types.specs.Exact.{first, second}
use Rattle.calvin_app.specs.Meaning.{IsExact}
use Rattle.calvin_once.specs.declared.kept.Named.{Named}
use Rattle.calvin_once.specs.declared.kept.OnceRow.{OnceRow}
use Rattle.calvin_once.specs.declared.kept.OnceRow.TheVariants as kept

pub named_exact : {Args : Type 0} (eq : Args → Args → Bool) → IsExact eq → IsExact (λ (a b : Named Args). ((a.id.client == b.id.client) && (a.id.number == b.id.number)) && eq a.args b.args)
named_exact eq exact a b h = λ i. record {
  id = record { client = eqb-true a.id.client b.id.client (first _ _ (first _ _ h)) i; number = eqb-true a.id.number b.id.number (second _ _ (first _ _ h)) i };
  args = exact a.args b.args (second _ _ h) i;
}

pub kept_exact : {Row Reply : Type 0} (eq : OnceRow Row Reply → OnceRow Row Reply → Bool)
    → ((a b : Row) → eq (kept.Row a) (kept.Row b) ≡ true → a ≡ b) → ((a b : Reply) → eq (kept.Reply a) (kept.Reply b) ≡ true → a ≡ b)
    → ((a : Row) (b : Reply) → eq (kept.Row a) (kept.Reply b) ≡ false) → ((a : Reply) (b : Row) → eq (kept.Reply a) (kept.Row b) ≡ false) → IsExact eq
kept_exact eq p q r s (kept.Row a) (kept.Row b) h = ap kept.Row (p a b h)
kept_exact eq p q r s (kept.Reply a) (kept.Reply b) h = ap kept.Reply (q a b h)
kept_exact eq p q r s (kept.Row a) (kept.Reply b) h = absurd (false≢true (sym (r a b) ∙ h))
kept_exact eq p q r s (kept.Reply a) (kept.Row b) h = absurd (false≢true (sym (s a b) ∙ h))
