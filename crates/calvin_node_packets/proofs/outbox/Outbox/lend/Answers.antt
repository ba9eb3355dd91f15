use denote.Memory.{lone}
use Rattle.std.proofs.Common.{◌<◌, sym, ap, subst, refl, ◌∙◌}
use Rattle.std.proofs.lemmas.Option.{same_Some}
use Rattle.calvin_node_packets.specs.Keeping.{is_plain, said}
use Rattle.calvin_node_packets.proofs.PacketSizes.{content_of}
use Rattle.calvin_node_packets.proofs.KeptPackets.{lists_of, found_at, seen_below, seen_said, lent_listed, lent_kept, lent_plain}
use Rattle.calvin_node_packets.proofs.outbox.Outbox.lend.Goals as goal

pub listed-content-requires : goal.listed-content-requires
listed-content-requires g c =
    let k = c.index-3.result.now in
    let l = lists_of c.self.inside.rows.views c.self.inside.sets.items c.self.inside.answers.items in
    let low = subst (λ n. c.args.number < n) (c.len.ensures ∙ c.self.inside.kept.ok.0) c.if-number-len.false in
    let here = found_at c.self.inside.kept.items c.self.inside.kept.items c.args.number k k refl low c.index-3.ensures in (
      content_of (lone g.row.A-Args.mir) (lone g.row.A-Row.mir) (lone g.row.A-Reply.mir) g.met.A.App.work_fits,
      (
        seen_below c.self.inside.kept.items l _ c.args.number k c.self.invariant here (λ i. record { rows = c.self.inside.rows.views; sets = c.as_slice-sets.ensures.value i; answers = c.as_slice-answers.ensures.value i }),
        sym c.is_plain.ensures ∙ c.if-not-is_plain.true,
      ),
    )

pub returns-then-not-is_plain : goal.returns-then-not-is_plain
returns-then-not-is_plain g c =
    let ks = c.self.inside.kept.items in
    let l = lists_of c.self.inside.rows.views c.self.inside.sets.items c.self.inside.answers.items in
    let low = subst (λ n. c.args.number < n) (c.len.ensures ∙ c.self.inside.kept.ok.0) c.if-number-len.false in
    let at_a = found_at ks ks c.args.number c.index.result.now c.index.result.now refl low c.index.ensures in
    let at_b = found_at ks ks c.args.number c.index-2.result.now c.index-2.result.now refl low c.index-2.ensures in
    let at_c = found_at ks ks c.args.number c.index-3.result.now c.index-3.result.now refl low c.index-3.ensures in
    let said_so = c.listed-content.ensures ∙ seen_said ks l _ c.args.number c.index-3.result.now c.self.invariant at_c (λ i. record { rows = c.self.inside.rows.views; sets = c.as_slice-sets.ensures.value i; answers = c.as_slice-answers.ensures.value i }) in
    lent_listed ks l c.args.self.now.packets c.args.number c.self.invariant (ap (λ v. v.packets) c.self.view_is) c.index.result.now c.index-2.result.now c.index-3.result.now at_a at_b at_c c.listed-content.result (sym c.is_plain.ensures ∙ c.if-not-is_plain.true) said_so

pub taken_out-content-requires : goal.taken_out-content-requires
taken_out-content-requires g c =
    let ks = c.self.inside.kept.items in
    let low = subst (λ n. c.args.number < n) (c.len.ensures ∙ c.self.inside.kept.ok.0) c.if-number-len.false in
    let at_c = found_at ks ks c.args.number c.index-3.result.now c.index-3.result.now refl low c.index-3.ensures in
    let at_d = found_at ks ks c.args.number c.index_mut.result.now c.index_mut.result.now refl low c.index_mut.ensures.value in (
      content_of (lone g.row.A-Args.mir) (lone g.row.A-Row.mir) (lone g.row.A-Reply.mir) g.met.A.App.work_fits,
      ap is_plain c.replace-lent.ensures.value ∙ ap (λ k. is_plain k.content) (same_Some c.index_mut.result.now c.index-3.result.now (sym at_d ∙ at_c)) ∙ sym c.is_plain.ensures ∙ c.if-not-is_plain.false,
    )

pub invariant_of-self : goal.invariant_of-self
invariant_of-self g c =
    let ks = c.self.inside.kept.items in
    let l = lists_of c.self.inside.rows.views c.self.inside.sets.items c.self.inside.answers.items in
    let low = subst (λ n. c.args.number < n) (c.len.ensures ∙ c.self.inside.kept.ok.0) c.if-number-len.false in
    let at_a = found_at ks ks c.args.number c.index.result.now c.index.result.now refl low c.index.ensures in
    let at_b = found_at ks ks c.args.number c.index-2.result.now c.index-2.result.now refl low c.index-2.ensures in
    let at_c = found_at ks ks c.args.number c.index-3.result.now c.index-3.result.now refl low c.index-3.ensures in
    let at_d = found_at ks ks c.args.number c.index_mut.result.now c.index_mut.result.now refl low c.index_mut.ensures.value in
    lent_kept ks l c.args.self.now.packets c.args.number c.self.invariant (ap (λ v. v.packets) c.self.view_is) c.index.result.now c.index-2.result.now c.index-3.result.now c.index_mut.result.now at_a at_b at_c at_d (sym c.is_plain.ensures ∙ c.if-not-is_plain.false) c.replace-lent.new.dest (ap is_plain c.replace-lent.ensures.after)

pub returns : goal.returns
returns g c =
    let ks = c.self.inside.kept.items in
    let l = lists_of c.self.inside.rows.views c.self.inside.sets.items c.self.inside.answers.items in
    let low = subst (λ n. c.args.number < n) (c.len.ensures ∙ c.self.inside.kept.ok.0) c.if-number-len.false in
    let at_a = found_at ks ks c.args.number c.index.result.now c.index.result.now refl low c.index.ensures in
    let at_b = found_at ks ks c.args.number c.index-2.result.now c.index-2.result.now refl low c.index-2.ensures in
    let at_c = found_at ks ks c.args.number c.index-3.result.now c.index-3.result.now refl low c.index-3.ensures in
    let at_d = found_at ks ks c.args.number c.index_mut.result.now c.index_mut.result.now refl low c.index_mut.ensures.value in
    lent_plain ks l c.args.self.now.packets c.args.number c.self.invariant (ap (λ v. v.packets) c.self.view_is) c.index.result.now c.index-2.result.now c.index-3.result.now c.index_mut.result.now at_a at_b at_c at_d (sym c.is_plain.ensures ∙ c.if-not-is_plain.false) c.replace-lent.new.dest (ap is_plain c.replace-lent.ensures.after) c.taken_out-content.result (ap (said l) (sym c.replace-lent.ensures.value) ∙ c.taken_out-content.ensures l)
