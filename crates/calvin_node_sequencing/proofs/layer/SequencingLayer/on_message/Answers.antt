use Rattle.std.proofs.Common.{inl, inr, refl, subst}
use Rattle.calvin_synod.specs.Cases.{message_grows}
use Rattle.calvin_node_acts.specs.Layers.{node_of}
use Rattle.calvin_node_acts.specs.Running.{NodeDid}
use Rattle.calvin_node_acts.proofs.Answered.{same_on}
use Rattle.calvin_node_sequencing.proofs.layer.SequencingLayer.on_message.Goals as goal

pub returns-in-Prepare-clause-did : goal.returns-in-Prepare-clause-did
returns-in-Prepare-clause-did g c rest =
    let x = node_of c.args.self.now rest in
    let message = c.args.message.now in
    subst (λ d. NodeDid (message_grows message) c.on_letter.result d x (node_of c.on_letter.new.self rest) c.args.outbox.now.packets c.on_letter.new.outbox.packets) (elim c.in-Prepare.is [
      | inl w ↦ same_on x.config c.args.from x.state message _ w.2 refl
      | inr others ↦ elim others [
        | inl w ↦ same_on x.config c.args.from x.state message _ w.3 refl
        | inr more ↦ elim more [
          | inl w ↦ same_on x.config c.args.from x.state message _ w.3 refl
          | inr w ↦ same_on x.config c.args.from x.state message _ w.3 refl
        ]
      ]
    ]) (c.on_letter.ensures.did rest)
