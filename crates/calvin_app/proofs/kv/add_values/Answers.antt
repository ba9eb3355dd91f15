use Rattle.std.proofs.Common.{◌≡◌, ◌++◌, ◌∷◌, [], ◌+◌, refl, sym, ap, ◌∙◌, map, drop, length, length-append, arith}
use Rattle.std.specs.Option.{is_some}
use Rattle.std.specs.FinMap as finmap
use Rattle.calvin_types.specs.Keys.{key_cmp}
use Rattle.calvin_app.proofs.Asked.{rises_pair}
use Rattle.calvin_app.proofs.Ends.{find_past}
use Rattle.calvin_app.proofs.Values.{one_more}
use Rattle.calvin_app.proofs.kv.add_values.Goals as goal
use Rattle.calvin_app.proofs.kv.add_values.Goals.{then-is_some, else-is_some}

pub loop-i-init : goal.loop-i-init
loop-i-init c = record { so_far = ap (λ xs. xs ++ map (finmap.get c.args.view.now) c.args.keys.now) c.requires; number = omega (arith, ap length c.requires); counted = omega arith; behind = λ j k _ _. refl }

pub loop-i-preserved : goal.loop-i-preserved
loop-i-preserved c =
    let value_is : c.get_from-value.result ≡ finmap.get c.args.view.now c.at.result = c.get_from-value.ensures ∙ c.loop-i.invariant.behind c.loop-i.i c.at.result (omega arith) c.at.ensures ∙ sym (finmap.get-entries c.args.view.now c.at.result) in
    record {
      so_far = ap (λ xs. xs ++ map (finmap.get c.args.view.now) (drop (c.loop-i.i + 1) c.args.keys.now)) (c.push.ensures ∙ ap (λ v. c.loop-i.values ++ v ∷ []) value_is) ∙ one_more (finmap.get c.args.view.now) c.args.keys.now c.loop-i.values _ c.loop-i.i c.at.result c.at.ensures c.loop-i.invariant.so_far;
      number = omega (arith, ap length c.push.ensures, length-append c.loop-i.values (c.get_from-value.result ∷ []), c.loop-i.invariant.number);
      counted = elim c.if-is_some.branch [
        | then-is_some w ↦ omega (arith, w.found-is, c.loop-i.invariant.counted)
        | else-is_some w ↦ omega (arith, w.found-is, c.loop-i.invariant.counted)
      ];
      behind = λ j k past here. elim c.if-is_some.branch [
        | then-is_some w ↦
            ap (λ n. finmap.find key_cmp k (drop n (finmap.entries c.args.view.now))) w.found-is
            ∙ find_past c.at.result k (finmap.entries c.args.view.now) c.loop-i.found (finmap.entries_sorted c.args.view.now) (ap is_some (sym c.get_from-value.ensures) ∙ sym c.is_some.ensures ∙ w.if-is_some.true) (rises_pair c.args.keys.now c.loop-i.i j c.at.result k c.len-i-end.ensures.rising c.at.ensures here (omega (arith, past)))
            ∙ c.loop-i.invariant.behind j k (omega (arith, past)) here
        | else-is_some w ↦ ap (λ n. finmap.find key_cmp k (drop n (finmap.entries c.args.view.now))) w.found-is ∙ c.loop-i.invariant.behind j k (omega (arith, past)) here
      ];
    }
