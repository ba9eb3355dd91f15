use Rattle.std.proofs.Common.{◌≡◌, ◌++◌, ◌∷◌, [], map, string_bytes, ap, ◌∙◌}
use Rattle.std.proofs.lemmas.List.{map-append}
use Rattle.serde_json.specs.Find.{as_str}
use Rattle.calvin_script_tokens.proofs.Steps.{string_spelled, one_more}
use Rattle.calvin_script_tokens.proofs.texts.StringPiece.push_tokens.Goals as goal

pub returns : goal.returns
returns c =
    let text = c.in_ok-text.text.now in
    let more : map string_bytes c.push.new.self.items ≡ map string_bytes c.args.found.now.items ++ text ∷ [] =
    ap (map string_bytes) c.in-Ok-push.ensures.items ∙ map-append string_bytes c.args.found.now.items (c.in-Ok.text ∷ []) ∙ ap (λ t. map string_bytes c.args.found.now.items ++ t ∷ []) c.in-Ok.ensures.ok in
    one_more as_str 0 c.args.reader.now c.string_at.new.reader _ _ text (string_spelled text c.args.reader.now c.string_at.new.reader c.in_ok-text.ensures) more
