-- How a service comes to its end.
use Rattle.std.proofs.Common.{ℕ, ◌≡◌, List, map, take, refl, sym, ◌∙◌, ap, subst, Option, Some, None, option_map, IfSome, OnOk, OnErr, IfErr, Result, Ok, Err}
use Rattle.std.specs.Io.KnownBytes.{Appends}
use mathlib.Core.List.{IsPrefix}
use Rattle.calvin_types.specs.declared.fault.Fault.{Fault}
use Rattle.calvin_app.specs.Meaning.{Meaning}
use Rattle.calvin_script.specs.Grammar.{Grammar}
use Rattle.calvin_text.specs.Texts.{finished}
use Rattle.calvin_journal_log.specs.Disks.{Disk, Leads}
use Rattle.calvin_journal.specs.Journals.{Becomes}
use Rattle.calvin_serve_input.specs.Inputs.{input_lines}
use Rattle.calvin_serve_lines.specs.Asking.{Asked, request_line}
use Rattle.calvin_serve_desk.specs.declared.setting.Setting.{Setting}
use Rattle.calvin_serve_desk.specs.Desks.{Standing}
use Rattle.calvin_serve_recovery.specs.Recovered.{Keeps}
use Rattle.calvin_serve.specs.Serving.{Serves, Ends}
use Rattle.calvin_serve_command.specs.declared.order.Task.{Task}
use Rattle.calvin_serve_command.specs.declared.order.Task.TheVariants.{Serve, Compact, Replay}
use Rattle.calvin_serve_command.specs.Services.{read_as, Opens, Served, Stops, Unopened, Midway, Untold}
use Rattle.serde_json.specs.Data.{Data}

pub well_then : {A E : Type 0} (r : Result A E) {P Q : Type 0} → (P → Q) → OnOk r P → OnOk r Q
well_then (Ok a) f h = f h
well_then (Err e) f h = tt

pub refused_then : {A E : Type 0} (r : Result A E) {P : Type 0} {Q R : E → Type 0} → ((e : E) → P → Q e → R e) → OnErr r P → IfErr r Q → IfErr r R
refused_then (Ok a) f h k = tt
refused_then (Err e) f h k = f e h k

module _ {Args Row Reply : Type 0} (m : Meaning Args Row Reply) (show : Reply → List ℕ) (form : Data → Option Row) (grammar : Grammar Args) (setting : Setting) (heading : List ℕ) (task : Task) (told : Option Disk) (given out : Option (List ℕ)) where
  pub unopened : (left : Option Disk) → Leads (Keeps heading) told left → IfSome told (λ disk. IfSome given (λ bytes. Stops m show form grammar setting heading task disk bytes out left out))
  unopened left kept = go told kept
    where
      inner : (disk : Disk) → Leads (Keeps heading) (Some disk) left → (given : Option (List ℕ)) → IfSome given (λ bytes. Stops m show form grammar setting heading task disk bytes out left out)
      inner disk kept None = tt
      inner disk kept (Some bytes) = Unopened kept refl

      go : (told : Option Disk) → Leads (Keeps heading) told left → IfSome told (λ disk. IfSome given (λ bytes. Stops m show form grammar setting heading task disk bytes out left out))
      go None kept = tt
      go (Some disk) kept = inner disk kept given

  module _ (desk : Standing Row) (opens : IfSome told (λ disk. Opens m show form grammar setting heading task disk.seen desk)) where
    -- the lines are read for the partitions of the journal
    same_lines : (found bytes : List ℕ) → Opens m show form grammar setting heading task found desk
        → map (request_line grammar desk.setting.partitions) (input_lines bytes) ≡ read_as m show form grammar setting heading bytes
    same_lines found bytes opens = ap (λ (s : Setting). map (request_line grammar s.partitions) (input_lines bytes)) (of_setting task opens)
      where
        of_setting : (t : Task) → Opens m show form grammar setting heading t found desk → desk.setting ≡ setting
        of_setting Serve r = ap (λ (s : Standing Row). s.setting) r.stands
        of_setting Compact r = r.2.setting ∙ ap (λ (s : Standing Row). s.setting) r.1.stands
        of_setting Replay r = absurd r

    pub midway : (left : Option Disk) (out_now : Option (List ℕ)) (lines : List (Result (Asked Args) Fault)) → Ends m show grammar desk out lines left out_now
        → IfSome given (λ bytes. IsPrefix lines (map (request_line grammar desk.setting.partitions) (input_lines bytes)))
        → IfSome told (λ disk. IfSome given (λ bytes. Stops m show form grammar setting heading task disk bytes out left out_now))
    midway left out_now lines ends first = go told opens
      where
        inner : (disk : Disk) → Opens m show form grammar setting heading task disk.seen desk → (given : Option (List ℕ))
            → IfSome given (λ bytes. IsPrefix lines (map (request_line grammar desk.setting.partitions) (input_lines bytes)))
            → IfSome given (λ bytes. Stops m show form grammar setting heading task disk bytes out left out_now)
        inner disk r None first = tt
        inner disk r (Some bytes) first = Midway desk r lines (subst (IsPrefix lines) (same_lines disk.seen bytes r) first) ends

        go : (told : Option Disk) → IfSome told (λ disk. Opens m show form grammar setting heading task disk.seen desk)
            → IfSome told (λ disk. IfSome given (λ bytes. Stops m show form grammar setting heading task disk bytes out left out_now))
        go None r = tt
        go (Some disk) r = inner disk r given first

    module _ (now : Standing Row) (said : Option (List ℕ)) (lines : List (Result (Asked Args) Fault)) (serves : Serves m show grammar desk out lines now said)
        (all : IfSome given (λ bytes. lines ≡ map (request_line grammar desk.setting.partitions) (input_lines bytes))) where
      serves_all : (found bytes : List ℕ) → Opens m show form grammar setting heading task found desk → lines ≡ map (request_line grammar desk.setting.partitions) (input_lines bytes)
          → Serves m show grammar desk out (read_as m show form grammar setting heading bytes) now said
      serves_all found bytes r are = subst (λ (ls : List (Result (Asked Args) Fault)). Serves m show grammar desk out ls now said) (are ∙ same_lines found bytes r) serves

      pub served : (out_now : Option (List ℕ)) → Appends said out_now (finished now.epoch)
          → IfSome told (λ disk. IfSome given (λ bytes. Served m show form grammar setting heading task disk.seen bytes out out_now))
      served out_now last = go told opens
        where
          inner : (disk : Disk) → Opens m show form grammar setting heading task disk.seen desk → (given : Option (List ℕ))
              → IfSome given (λ bytes. lines ≡ map (request_line grammar desk.setting.partitions) (input_lines bytes))
              → IfSome given (λ bytes. Served m show form grammar setting heading task disk.seen bytes out out_now)
          inner disk r None all = tt
          inner disk r (Some bytes) all = record { desk = desk; opens = r; now = now; said = said; serves = serves_all disk.seen bytes r all; last = last }

          go : (told : Option Disk) → IfSome told (λ disk. Opens m show form grammar setting heading task disk.seen desk)
              → IfSome told (λ disk. IfSome given (λ bytes. Served m show form grammar setting heading task disk.seen bytes out out_now))
          go None r = tt
          go (Some disk) r = inner disk r given all

      pub untold : (left : Option Disk) (out_now : Option (List ℕ)) (n : ℕ) → Appends said out_now (take n (finished now.epoch))
          → Becomes (option_map (λ (ls : List (List ℕ)). (ls, ls)) now.lines) left
          → IfSome told (λ disk. IfSome given (λ bytes. Stops m show form grammar setting heading task disk bytes out left out_now))
      untold left out_now n part kept = go told opens
        where
          inner : (disk : Disk) → Opens m show form grammar setting heading task disk.seen desk → (given : Option (List ℕ))
              → IfSome given (λ bytes. lines ≡ map (request_line grammar desk.setting.partitions) (input_lines bytes))
              → IfSome given (λ bytes. Stops m show form grammar setting heading task disk bytes out left out_now)
          inner disk r None all = tt
          inner disk r (Some bytes) all = Untold desk now r said (serves_all disk.seen bytes r all) n part kept

          go : (told : Option Disk) → IfSome told (λ disk. Opens m show form grammar setting heading task disk.seen desk)
              → IfSome told (λ disk. IfSome given (λ bytes. Stops m show form grammar setting heading task disk bytes out left out_now))
          go None r = tt
          go (Some disk) r = inner disk r given all
