use Rattle.std.proofs.Common.{◌≡◌, ◌+◌, ◌++◌, take, drop, Some, slice_get, vec_len, sym, ap, ◌∙◌, arith, rules}
use Rattle.std.proofs.Math.ListN.{set}
use Rattle.std.proofs.lemmas.List.{append-nil, drop_all}
use Rattle.std.proofs.lemmas.Option.{slice_get-get_or}
use Rattle.calvin_store.specs.Versions.{before_pair, before_pairs}
use Rattle.calvin_store.proofs.Filtering.{filtered_in, filtered_out}
use Rattle.calvin_store.proofs.versions.Versions.go_back.Goals as goal
use Rattle.calvin_store.proofs.versions.Versions.go_back.Goals.{in-Some, in_default}

pub loop-i-preserved : goal.loop-i-preserved
loop-i-preserved g c =
    let es = c.loop-i.pairs.items in
    let b = c.args.self.now.before.rows in
    let x = c.index-pair.result.now in
    let here : slice_get es c.loop-i.i ≡ Some x = slice_get-get_or es c.loop-i.i x (omega (arith, c.loop-i-test.true, c.len-i-end.ensures, c.loop-i.invariant.len, c.loop-i.pairs.ok.0)) ∙ ap Some (sym c.index-pair.ensures) in
    elim c.match-pair_before.branch [
      | in-Some w ↦
          let y = w.in-Some.before in
          let items : c.match-pair_before.pairs.items ≡ set es c.loop-i.left y = search rules in
          let len : vec_len c.match-pair_before.pairs ≡ vec_len c.loop-i.pairs = search rules in record {
            so_far = (λ j. take (w.left-is j) (items j) ++ before_pairs b (drop (c.loop-i.i + 1) (items j)))
                ∙ filtered_in (before_pair b) es c.loop-i.i c.loop-i.left x here y (sym c.pair_before.ensures ∙ w.in-Some.is) c.loop-i.invariant.behind ∙ c.loop-i.invariant.so_far;
            behind = omega (arith, w.left-is, c.loop-i.invariant.behind);
            len = len ∙ c.loop-i.invariant.len;
          }
      | in_default w ↦ record {
        so_far = (λ j. take (w.left-is j) (w.pairs-is j).items ++ before_pairs b (drop (c.loop-i.i + 1) (w.pairs-is j).items))
            ∙ filtered_out (before_pair b) es c.loop-i.i c.loop-i.left x here (sym c.pair_before.ensures ∙ w.in_default.is) ∙ c.loop-i.invariant.so_far;
        behind = omega (arith, w.left-is, c.loop-i.invariant.behind);
        len = ap vec_len w.pairs-is ∙ c.loop-i.invariant.len;
      }
    ]

pub returns : goal.returns
returns g c =
    let es = c.loop-i.pairs.items in
    let left = take c.loop-i.left es in
    c.truncate.ensures.items ∙ sym (append-nil left)
    ∙ ap (λ r. left ++ before_pairs c.args.self.now.before.rows r) (sym (drop_all c.loop-i.i es (omega (arith, c.loop-i-test.false, c.len-i-end.ensures, c.loop-i.invariant.len, c.loop-i.pairs.ok.0))))
    ∙ c.loop-i.invariant.so_far
