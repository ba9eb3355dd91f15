use Rattle.std.proofs.Common.{refl, sym, ap, subst, slice_set, ◌∙◌, map}
use Rattle.calvin_node_packets.specs.Keeping.{AreKept, none, counts, restored}
use Rattle.calvin_node_packets.specs.declared.kept.Kept.{Kept}
use Rattle.calvin_node_packets.proofs.KeptPackets.{lists_of, found_at, within_kept, put_kept, put_nothing, put_packets}
use Rattle.calvin_node_packets.proofs.outbox.Outbox.put_back.Goals as goal

pub invariant_of-self : goal.invariant_of-self
invariant_of-self g c =
    let ks = c.self.inside.kept.items in
    let l = lists_of c.self.inside.rows.views c.self.inside.sets.items c.self.inside.answers.items in
    let view = ap (λ v. v.packets) c.self.view_is in
    let low = within_kept ks l c.args.self.now.packets c.args.number c.requires.other view c.requires.there in
    let here = found_at ks ks c.args.number c.index_mut.result.now c.index_mut.result.now refl low c.index_mut.ensures.value in
    subst (λ (k : Kept _). AreKept (slice_set ks c.args.number k) none (counts l)) (sym c.replace-other.ensures.after)
    (put_kept ks l c.args.self.now.packets c.args.number c.self.invariant view c.args.packet c.requires c.index_mut.result.now here c.in-Some.ensures.0 c.in-Some.content c.in-Some.ensures.1)

pub returns-in-Some : goal.returns-in-Some
returns-in-Some g c =
    let ks = c.self.inside.kept.items in
    let l = lists_of c.self.inside.rows.views c.self.inside.sets.items c.self.inside.answers.items in
    let view = ap (λ v. v.packets) c.self.view_is in
    let low = within_kept ks l c.args.self.now.packets c.args.number c.requires.other view c.requires.there in
    let here = found_at ks ks c.args.number c.index_mut.result.now c.index_mut.result.now refl low c.index_mut.ensures.value in
    ap (λ k. map (restored l) (slice_set ks c.args.number k)) c.replace-other.ensures.after
    ∙ put_packets ks l c.args.self.now.packets c.args.number c.self.invariant view c.args.packet c.requires c.index_mut.result.now here c.in-Some.ensures.0 c.in-Some.content c.in-Some.ensures.1

pub returns-in_default : goal.returns-in_default
returns-in_default g c =
    let l = lists_of c.self.inside.rows.views c.self.inside.sets.items c.self.inside.answers.items in
    put_nothing c.self.inside.kept.items l c.args.self.now.packets c.args.number c.self.invariant (ap (λ v. v.packets) c.self.view_is) c.args.packet c.requires c.in_default.ensures
