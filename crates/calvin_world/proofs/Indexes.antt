-- Where nodes stand.
use Rattle.std.proofs.Common.{◌≡◌, ℕ, ◌/◌, ◌%◌, ◌<◌, sym, ap, ◌∙◌}
use Rattle.std.proofs.lemmas.Nat.{div-mul-add, mod-mul-add}
use Rattle.calvin_types.specs.declared.place.NodeId.{NodeId}
use Rattle.calvin_world.specs.Worlds.{index_of}

pub same_index : (parts : ℕ) (a b : NodeId) → a.partition < parts → b.partition < parts → index_of parts a ≡ index_of parts b → a ≡ b
same_index parts a b la lb e =
    let r : a.replica ≡ b.replica = sym (div-mul-add a.replica parts a.partition la) ∙ ap (λ n. n / parts) e ∙ div-mul-add b.replica parts b.partition lb in
    let p : a.partition ≡ b.partition = sym (mod-mul-add a.replica parts a.partition la) ∙ ap (λ n. n % parts) e ∙ mod-mul-add b.replica parts b.partition lb in
    λ i. record { replica = r i; partition = p i }
