-- The requests that wait become an epoch.
use Rattle.std.proofs.Common.{ℕ, ◌≡◌, List, [], ◌∷◌, ◌++◌, true, false, sym, ◌∙◌, ap, subst, length, take, map, append-nil, Option, option_map, Result, Ok, Err, IfOk, ◌⊎◌, ⊎_elim}
use Rattle.std.proofs.lemmas.List.FromFn.{length-map-range_with_len}
use Rattle.std.specs.Io.KnownBytes.{Appends}
use Rattle.calvin_types.specs.declared.fault.Fault.{Fault}
use Rattle.calvin_app.specs.Meaning.{Meaning}
use Rattle.calvin_script.specs.Grammar.{Grammar}
use Rattle.calvin_script.specs.Scripts.{Listed}
use Rattle.calvin_journal_log.specs.Disks.{Disk}
use Rattle.calvin_journal.specs.Journals.{Becomes}
use Rattle.calvin_serve_desk.specs.Desks.{Standing, Commits}
use Rattle.calvin_serve_desk.specs.Epochs.{epoch_answers}
use Rattle.calvin_serve_lines.specs.Asking.{Asked}
use Rattle.calvin_serve_lines.specs.Epochs.{epoch_in}
use Rattle.calvin_serve_lines.specs.Gathered.{gathered, batches_of, waiting_for}
use Rattle.calvin_serve.specs.Turns.{lines_in}
use Rattle.calvin_serve.specs.Serving.{Sitting, Follows, Ends, Serves}
use Rattle.calvin_serve.proofs.Steps.{follow_settle, ends_settled, ends_next, appends-none}

pub ok_both : {T E : Type 0} (r : Result T E) {P Q R : T → Type 0} → ((t : T) → P t → Q t → R t) → IfOk r P → IfOk r Q → IfOk r R
ok_both (Ok t) f p q = f t p q
ok_both (Err e) f p q = tt

same_out : (a b : Option (List ℕ)) → b ≡ a → Appends a b []
same_out a b e = subst (λ o. Appends a o []) (sym e) (appends-none a)

module _ {Args Row Reply : Type 0} (m : Meaning Args Row Reply) (show : Reply → List ℕ) (grammar : Grammar Args) (now : Sitting Args Row) (out_now : Option (List ℕ)) (line : List ℕ) (epoch : List (Listed Args))
    (reads : epoch_in grammar (length now.waiting) line ≡ Ok (batches_of now.waiting)) (listed : epoch ≡ batches_of now.waiting) (waits : now.waits ≡ true) where
  module _ (old : Standing Row) (out : Option (List ℕ)) (lines : List (Result (Asked Args) Fault)) (f : Follows m show grammar old out lines now out_now) where
    groups : length now.waiting ≡ old.setting.partitions
    groups = ap length f.waiting ∙ length-map-range_with_len (λ g. waiting_for g f.asked) 0 old.setting.partitions

    reads_so : epoch_in grammar old.setting.partitions line ≡ Ok (batches_of now.waiting)
    reads_so = ap (λ n. epoch_in grammar n line) (sym groups) ∙ reads

    module _ (d : Standing Row) (said : List ℕ) (commits : Commits m show now.desk line epoch d [] said) where
      ran : epoch_answers m show now.desk.setting now.desk.epoch now.desk.rows (batches_of now.waiting) ≡ Ok (d.rows, commits.here)
      ran = ap (epoch_answers m show now.desk.setting now.desk.epoch now.desk.rows) (sym listed) ∙ commits.answered

      pub settled_so : (s : Sitting Args Row) → s.desk ≡ d → s ≡ record { desk = s.desk; waiting = gathered now.desk.setting.partitions []; count = now.count; waits = false }
          → (out_new : Option (List ℕ)) → Appends out_now out_new said → Follows m show grammar old out lines s out_new
      settled_so s here is out_new printed =
          let partitions = ap (λ (d : Standing Row). d.setting.partitions) f.stands in
          subst (λ (x : Sitting Args Row). Follows m show grammar old out lines x out_new)
          ((λ i. record { desk = sym commits.stands i; waiting = gathered (sym partitions i) []; count = now.count; waits = false })
          ∙ ap (λ (x : Standing Row). record { desk = x; waiting = gathered now.desk.setting.partitions []; count = now.count; waits = false }) (sym here) ∙ sym is)
          (follow_settle m show grammar old out lines now out_now f waits line commits.here d.rows ran reads_so out_new (subst (Appends out_now out_new) commits.added printed))

      pub ends_in_part : (out_new : Option (List ℕ)) (n : ℕ) → Appends out_now out_new (take n said) → (disk : Option Disk) → Becomes (option_map (λ ls. (ls, ls)) d.lines) disk
          → Ends m show grammar old out lines disk out_new
      ends_in_part out_new n printed disk left =
          ends_settled m show grammar old out lines now out_now f waits line commits.here d.rows ran reads_so out_new n (subst (λ w. Appends out_now out_new (take n w)) commits.added printed) disk
          (subst (λ o. Becomes (option_map (λ ls. (ls, ls)) o) disk) (ap (λ (x : Standing Row). x.lines) commits.stands) left)

    pub ends_so : (out_new : Option (List ℕ)) (disk : Option Disk)
        → (Becomes (option_map (λ ls. (ls, ls ++ line ∷ [])) now.desk.lines) disk × (out_new ≡ out_now))
        ⊎ ((d : Standing Row) × (said : List ℕ) × (n : ℕ) × Commits m show now.desk line epoch d [] said × Appends out_now out_new (take n said) × Becomes (option_map (λ ls. (ls, ls)) d.lines) disk)
        → Ends m show grammar old out lines disk out_new
    ends_so out_new disk either =
        ⊎_elim
        (λ next. subst (λ o. Ends m show grammar old out lines disk o) (sym next.1) (ends_next m show grammar old out lines now out_now f waits line reads_so disk next.0))
        (λ part. ends_in_part part.0 part.1 part.3 out_new part.2 part.4 disk part.5)
        either

-- where no request waits all lines were served
module _ {Args Row Reply : Type 0} (m : Meaning Args Row Reply) (show : Reply → List ℕ) (grammar : Grammar Args) (old : Standing Row) (out : Option (List ℕ)) (lines : List (Result (Asked Args) Fault)) where
  all_read : (read : List (Result (Asked Args) Fault)) (asked : List (Asked Args)) → asked ≡ [] → read ++ map Ok asked ≡ lines → read ≡ lines
  all_read read asked none is = sym (append-nil read) ∙ ap (λ w. read ++ map Ok w) (sym none) ∙ is

  pub serves_all : (now : Sitting Args Row) (out_now : Option (List ℕ)) → now.waits ≡ false → Follows m show grammar old out lines now out_now → Serves m show grammar old out lines now.desk out_now
  serves_all now out_now rests f = record {
    turns = f.turns;
    read = all_read (lines_in f.turns) f.asked (f.rests rests) f.read;
    text = f.text;
    answered = f.answered;
    printed = f.printed;
    added = f.added;
    spelled = f.spelled;
    stands = f.stands;
  }
