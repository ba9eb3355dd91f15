-- A journal that is written anew from a desk.
use Rattle.std.proofs.Common.{ℕ, ◌≡◌, ◌⊎◌, inl, inr, List, [], ◌∷◌, refl, sym, ◌∙◌, ap, subst, Option, Some, None, option_map, IfSome, OnOk, OnErr, Result, Ok, Err, ◌+◌}
use Rattle.serde_json.specs.Data.{Data}
use Rattle.calvin_types.specs.declared.fault.Fault.{Fault}
use Rattle.calvin_types.specs.declared.fault.Fault.TheVariants.{OutOfMemory, NotAJournal, JournalInUse, JournalFailed}
use Rattle.calvin_app.specs.Meaning.{Meaning}
use Rattle.calvin_script.specs.Grammar.{Grammar}
use Rattle.calvin_journal_log.specs.Disks.{Disk, IsInOrder, Leads}
use Rattle.calvin_journal_log.specs.Files.{IsFileFault}
use Rattle.calvin_journal.specs.Journals.{Becomes}
use Rattle.calvin_journal.specs.Readings.{Lines}
use Rattle.calvin_serve_desk.specs.declared.setting.Setting.{Setting}
use Rattle.calvin_serve_desk.specs.Desks.{Standing}
use Rattle.calvin_serve.specs.Blame.{IsBlamed}
use Rattle.calvin_serve_recovery.specs.Recovered.{Recovers, Keeps}
use Rattle.calvin_serve_recovery.proofs.Crashes.{keeps_opened}
use Rattle.calvin_serve_command.specs.declared.order.Task.TheVariants.{Compact}
use Rattle.calvin_serve_command.specs.Services.{IsAnew, Opens, Stops, Unopened}
use Rattle.calvin_serve_command.specs.Compacting.{IsCompacted, IsCompactedOf}

pub file_faults : (fault : Fault) → IsFileFault fault → (fault ≡ OutOfMemory) ⊎ (fault ≡ NotAJournal) ⊎ (fault ≡ JournalInUse) ⊎ (fault ≡ JournalFailed)
file_faults OutOfMemory h = inl refl
file_faults NotAJournal h = inr (inl refl)
file_faults JournalInUse h = inr (inr (inl refl))
file_faults JournalFailed h = inr (inr (inr refl))
file_faults _ h = absurd h

-- what holds holds however a call ended
pub well_so : {A E : Type 0} (r : Result A E) {P : Type 0} → P → OnOk r P
well_so (Ok a) h = h
well_so (Err e) h = tt

pub ill_so : {A E : Type 0} (r : Result A E) {P : Type 0} → P → OnErr r P
ill_so (Ok a) h = tt
ill_so (Err e) h = h

-- the log of a service failed once where that is told
pub log_failed : (fault : Fault) (log log_now sink sink_now : ℕ) → IsBlamed fault log log_now sink sink_now → fault ≡ JournalFailed → log_now ≡ log + 1
log_failed fault log log_now sink sink_now blamed is = (subst (λ f. IsBlamed f log log_now sink sink_now) is blamed).0

module _ {Args Row Reply : Type 0} (m : Meaning Args Row Reply) (show : Reply → List ℕ) (form : Data → Option Row) (grammar : Grammar Args) (setting : Setting) (heading : List ℕ) where
  pub opens_anew : (told : Option Disk) (desk anew : Standing Row) → IfSome told (λ disk. Recovers m show form grammar setting heading disk.seen desk) → IsAnew form heading desk anew
      → IfSome told (λ disk. Opens m show form grammar setting heading Compact disk.seen anew)
  opens_anew None desk anew r is = tt
  opens_anew (Some disk) desk anew r is = (desk, r, is)

  pub compacted_of : (told found : Option Disk) (desk : Standing Row) → IfSome told (λ disk. Recovers m show form grammar setting heading disk.seen desk) → IfSome found (IsCompacted form heading desk)
      → IfSome told (λ disk. IfSome found (IsCompactedOf m show form grammar setting heading disk.seen))
  compacted_of None found desk r is = tt
  compacted_of (Some disk) None desk r is = tt
  compacted_of (Some disk) (Some there) desk r is = (desk, r, is)

  -- the log of a desk has all lines that were found
  keeps_desk : (disk : Disk) (left : Option Disk) (desk : Standing Row) → IsInOrder disk → Recovers m show form grammar setting heading disk.seen desk
      → Becomes (option_map (λ (ls : List (List ℕ)). (ls, ls)) desk.lines) left → Leads (Keeps heading) (Some disk) left
  keeps_desk disk left desk order r stands =
      keeps_opened heading (Some disk) left (Some (record { done = heading ∷ []; ahead = r.lines })) order (r.lines, r.whole, refl) (λ e. absurd (cc e))
      (subst (λ (ls : Option (List (List ℕ))). Becomes (option_map (λ (l : List (List ℕ)). (l, l)) ls) left) (ap (λ (s : Standing Row). s.lines) r.stands) stands)

  pub stays : (told left : Option Disk) (given out out_now : Option (List ℕ)) (desk : Standing Row) → IfSome told IsInOrder → IfSome told (λ disk. Recovers m show form grammar setting heading disk.seen desk)
      → Becomes (option_map (λ (ls : List (List ℕ)). (ls, ls)) desk.lines) left → out_now ≡ out
      → IfSome told (λ disk. IfSome given (λ bytes. Stops m show form grammar setting heading Compact disk bytes out left out_now))
  stays None left given out out_now desk order r stands same = tt
  stays (Some disk) left None out out_now desk order r stands same = tt
  stays (Some disk) left (Some bytes) out out_now desk order r stands same = Unopened (keeps_desk disk left desk order r stands) same
