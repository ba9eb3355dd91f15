use Rattle.std.proofs.Common.{ℕ, List, [], false, map, sym, ◌∙◌, ap, subst, Option, Some, None, IfSome, refl}
use mathlib.Core.List.{IsPrefix}
use Rattle.calvin_serve_input.specs.Inputs.{Held, coming, input_lines}
use Rattle.calvin_serve_lines.specs.Asking.{request_line}
use Rattle.calvin_serve_lines.specs.Gathered.{gathered}
use Rattle.calvin_serve.specs.Serving.{Sitting, Follows}
use Rattle.calvin_serve.proofs.Reading.{whole_input}
use Rattle.calvin_serve.proofs.Steps.{ok_then, err_then, ends_here, follow_start}
use Rattle.calvin_serve.proofs.engine.serve.Goals as goal

-- where bytes are told
some_then : {A : Type 0} (o : Option A) {P Q : A → Type 0} → ((x : A) → P x → Q x) → IfSome o P → IfSome o Q
some_then None f h = tt
some_then (Some x) f h = f x h

pub returns-in-Ok-new-clause-ok : goal.returns-in-Ok-new-clause-ok
returns-in-Ok-new-clause-ok g c =
    let m = g.A.App.meaning in
    let show = g.A.Reply.Printed.printed in
    let grammar = g.A.Args.Operation.grammar in
    let desk = c.args.desk in
    let out = g.K.Sink.taken c.args.sink.now in
    let start = subst (λ (s : Sitting g.row.A-Args.Denot g.row.A-Row.Denot). Follows m show grammar desk out [] s out) (sym c.in-Ok.ensures.ok) (follow_start m show grammar desk out) in
    ok_then c.serve_input.result
    (λ now p.
    let t = p desk out start in (
      t.lines,
      t.serves,
      some_then (g.S.Source.left c.args.source.now)
          (λ bytes all. all ∙ ap (λ (i : Held). map (request_line grammar desk.setting.partitions) (coming i bytes)) c.in-Ok-new.ensures ∙ whole_input grammar desk.setting.partitions bytes) t.all,
    ))
    c.serve_input.ensures.ok

pub returns-in-Ok-new-clause-stopped : goal.returns-in-Ok-new-clause-stopped
returns-in-Ok-new-clause-stopped g c =
    let m = g.A.App.meaning in
    let show = g.A.Reply.Printed.printed in
    let grammar = g.A.Args.Operation.grammar in
    let desk = c.args.desk in
    let out = g.K.Sink.taken c.args.sink.now in
    let start = subst (λ (s : Sitting g.row.A-Args.Denot g.row.A-Row.Denot). Follows m show grammar desk out [] s out) (sym c.in-Ok.ensures.ok) (follow_start m show grammar desk out) in
    err_then c.serve_input.result
    (λ stopped p.
    let t = p desk out start in (
      t.lines,
      t.ends,
      some_then (g.S.Source.left c.args.source.now)
          (λ bytes first.
          subst (IsPrefix t.lines) (ap (λ (i : Held). map (request_line grammar desk.setting.partitions) (coming i bytes)) c.in-Ok-new.ensures ∙ whole_input grammar desk.setting.partitions bytes) first)
          t.first,
    ))
    c.serve_input.ensures.err

nothing_first : {A : Type 0} (f : List ℕ → List A) (told : Option (List ℕ)) → IfSome told (λ bytes. IsPrefix [] (f bytes))
nothing_first f None = tt
nothing_first f (Some bytes) = (f bytes, refl)

pub returns-in-Err-new-clause-stopped : goal.returns-in-Err-new-clause-stopped
returns-in-Err-new-clause-stopped g c =
    let m = g.A.App.meaning in
    let show = g.A.Reply.Printed.printed in
    let grammar = g.A.Args.Operation.grammar in
    let desk = c.args.desk in
    let out = g.K.Sink.taken c.args.sink.now in
    let start = subst (λ (s : Sitting g.row.A-Args.Denot g.row.A-Row.Denot). Follows m show grammar desk out [] s out) (sym c.in-Ok.ensures.ok) (follow_start m show grammar desk out) in (
      [],
      ends_here m show grammar desk out [] c.in-Ok.sitting out start (g.L.Log.told c.stop.result.log) c.stop.ensures.left,
      nothing_first (λ bytes. map (request_line grammar desk.setting.partitions) (input_lines bytes)) (g.S.Source.left c.args.source.now),
    )

pub returns-in-Err-clause-stopped : goal.returns-in-Err-clause-stopped
returns-in-Err-clause-stopped g c =
    let m = g.A.App.meaning in
    let show = g.A.Reply.Printed.printed in
    let grammar = g.A.Args.Operation.grammar in
    let desk = c.args.desk in
    let out = g.K.Sink.taken c.args.sink.now in
    let start = follow_start m show grammar desk out in (
      [],
      ends_here m show grammar desk out [] (record { desk = desk; waiting = gathered desk.setting.partitions []; count = 0; waits = false }) out start (g.L.Log.told c.in-Err.stopped.log) c.in-Err.ensures.err,
      nothing_first (λ bytes. map (request_line grammar desk.setting.partitions) (input_lines bytes)) (g.S.Source.left c.args.source.now),
    )
