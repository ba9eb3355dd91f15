-- What one step makes of a service, and how it ends.
use Rattle.std.proofs.Common.{arith, ℕ, suc, ◌+◌, ◌≡◌, List, [], ◌∷◌, ◌++◌, true, false, refl, sym, ◌∙◌, ap, subst, map, length, take, length-append, append_assoc, append-nil, Option, Some, None, option_map, Result, Ok, Err, IfOk, IfErr, inl, inr}
use Rattle.std.proofs.lemmas.List.{map-append, take_all}
use Rattle.std.specs.Io.KnownBytes.{Appends}
use mathlib.Core.List.{IsPrefix}
use Rattle.calvin_types.specs.declared.fault.Fault.{Fault}
use Rattle.calvin_app.specs.Rows.{Rows}
use Rattle.calvin_app.specs.Meaning.{Meaning}
use Rattle.calvin_script.specs.declared.contents.Request.{Request}
use Rattle.calvin_script.specs.Grammar.{Grammar}
use Rattle.calvin_script.specs.Reading.{and_then}
use Rattle.calvin_journal_log.specs.Disks.{Disk}
use Rattle.calvin_journal.specs.Journals.{Becomes}
use Rattle.calvin_serve_desk.specs.Desks.{Standing}
use Rattle.calvin_serve_desk.specs.Epochs.{epoch_answers}
use Rattle.calvin_serve_lines.specs.Asking.{Asked}
use Rattle.calvin_serve_lines.specs.Epochs.{epoch_in}
use Rattle.calvin_serve_lines.specs.Gathered.{gathered, batches_of}
use Rattle.calvin_serve.specs.Turns.{Turn, Epoch, Refusal, lines_in, epoch_of_asked, refusal, AreSpelled, told}
use Rattle.calvin_serve.specs.Serving.{Sitting, Follows, Ends}
use Rattle.calvin_serve.proofs.Turning.{epochs_in, lines_in-append, spelled-append, spelled-length, behind, told-append}

-- ---- what is known of bytes

pub appends-none : (out : Option (List ℕ)) → Appends out out []
appends-none None = tt
appends-none (Some bytes) = sym (append-nil bytes)

pub appends-more : (a b c : Option (List ℕ)) (xs ys : List ℕ) → Appends a b xs → Appends b c ys → Appends a c (xs ++ ys)
appends-more None b c xs ys p q = tt
appends-more (Some a) None c xs ys p q = absurd p
appends-more (Some a) (Some b) None xs ys p q = absurd q
appends-more (Some a) (Some b) (Some c) xs ys p q = q ∙ ap (λ w. w ++ ys) p ∙ append_assoc a xs ys

pub more-none : {A : Type 0} (o : Option (List A)) → o ≡ option_map (λ xs. xs ++ []) o
more-none None = refl
more-none (Some xs) = ap Some (sym (append-nil xs))

pub more-more : {A : Type 0} (o : Option (List A)) (xs ys : List A) → option_map (λ ls. ls ++ ys) (option_map (λ ls. ls ++ xs) o) ≡ option_map (λ ls. ls ++ (xs ++ ys)) o
more-more None xs ys = refl
more-more (Some ls) xs ys = ap Some (append_assoc ls xs ys)

pub prefix-refl : {A : Type 0} (xs ys : List A) → xs ≡ ys → IsPrefix xs ys
prefix-refl xs ys e = ([], append-nil xs ∙ e)

pub prefix-more : {A : Type 0} (xs ys zs : List A) → IsPrefix xs ys → IsPrefix xs (ys ++ zs)
prefix-more xs ys zs p = (p.0 ++ zs, sym (append_assoc xs p.0 zs) ∙ ap (λ w. w ++ zs) p.1)

-- one item more is some item
some_more : {A : Type 0} (xs : List A) (x : A) → xs ++ x ∷ [] ≡ [] → ⊥
some_more [] x e = absurd (cc e)
some_more (y ∷ ys) x e = absurd (cc e)

take-behind : (xs ys : List ℕ) (n : ℕ) → take (length xs + n) (xs ++ ys) ≡ xs ++ take n ys
take-behind [] ys n =
    let none : 0 + n ≡ n = omega arith in
    ap (λ k. take k ys) none
take-behind (x ∷ xs) ys n =
    let next : suc (length xs) + n ≡ suc (length xs + n) = omega arith in
    ap (λ k. take k (x ∷ (xs ++ ys))) next ∙ ap (λ w. x ∷ w) (take-behind xs ys n)

-- the bounds of what a crash leaves, after lines were added
pub bounds-both : (o : Option (List (List ℕ))) (xs : List (List ℕ)) (disk : Option Disk)
    → Becomes (option_map (λ ls. (ls, ls)) (option_map (λ ls. ls ++ xs) o)) disk → Becomes (option_map (λ ls. (ls ++ xs, ls ++ xs ++ [])) o) disk
bounds-both None xs disk p = p
bounds-both (Some ls) xs disk p = subst (λ w. Becomes (Some (ls ++ xs, w)) disk) (sym (append-nil (ls ++ xs))) p

pub bounds-one : (o : Option (List (List ℕ))) (xs : List (List ℕ)) (line : List ℕ) (disk : Option Disk)
    → Becomes (option_map (λ ls. (ls, ls ++ line ∷ [])) (option_map (λ ls. ls ++ xs) o)) disk → Becomes (option_map (λ ls. (ls ++ xs, ls ++ xs ++ line ∷ [])) o) disk
bounds-one None xs line disk p = p
bounds-one (Some ls) xs line disk p = p

module _ {Args Row Reply : Type 0} (m : Meaning Args Row Reply) (show : Reply → List ℕ) (grammar : Grammar Args) (old : Standing Row) (out : Option (List ℕ)) (lines : List (Result (Asked Args) Fault)) where
  abbrev partitions : ℕ
  partitions = old.setting.partitions

  abbrev pub Sat : Type 0
  Sat = Sitting Args Row

  module _ (now : Sitting Args Row) (out_now : Option (List ℕ)) (f : Follows m show grammar old out lines now out_now) where
    -- ---- a request waits

    pub follow_add : (a : Asked Args) (waiting : List (List (Request Args)))
        → ((p : ℕ) (before : List (Asked Args)) → now.waiting ≡ gathered p before → waiting ≡ gathered p (before ++ a ∷ []))
        → Follows m show grammar old out (lines ++ Ok a ∷ []) (record { desk = now.desk; waiting = waiting; count = now.count + 1; waits = true }) out_now
    follow_add a waiting grows = record {
      turns = f.turns;
      asked = f.asked ++ a ∷ [];
      read = ap (λ w. lines_in f.turns ++ w) (map-append Ok f.asked (a ∷ [])) ∙ sym (append_assoc (lines_in f.turns) (map Ok f.asked) (Ok a ∷ [])) ∙ ap (λ w. w ++ Ok a ∷ []) f.read;
      count = ap (λ n. n + 1) f.count ∙ sym (length-append lines (Ok a ∷ []));
      waiting = grows partitions f.asked f.waiting;
      rests = λ no. absurd (cc no);
      waits = λ yes. some_more f.asked a;
      text = f.text;
      answered = f.answered;
      printed = f.printed;
      added = f.added;
      spelled = f.spelled;
      stands = f.stands;
    }

    -- ---- the requests that wait are an epoch

    abbrev settled : List (Turn Args)
    settled = f.turns ++ Epoch f.asked ∷ []

    settled_lines : lines_in settled ≡ lines
    settled_lines = lines_in-append f.turns (Epoch f.asked ∷ []) ∙ ap (λ w. lines_in f.turns ++ w) (append-nil (map Ok f.asked)) ∙ f.read

    number : now.desk.epoch ≡ old.epoch + epochs_in f.turns
    number = ap (λ d. d.epoch) f.stands ∙ ap (λ n. old.epoch + n) (spelled-length grammar partitions f.turns f.added f.spelled)

    setting_is : now.desk.setting ≡ old.setting
    setting_is = ap (λ d. d.setting) f.stands

    epoch_is : batches_of now.waiting ≡ epoch_of_asked partitions f.asked
    epoch_is = ap batches_of f.waiting

    module _ (waits : now.waits ≡ true) (line here : List ℕ) (rows : Rows Row) (ran : epoch_answers m show now.desk.setting now.desk.epoch now.desk.rows (batches_of now.waiting) ≡ Ok (rows, here)) where
      ran_so : epoch_answers m show old.setting (old.epoch + epochs_in f.turns) now.desk.rows (epoch_of_asked partitions f.asked) ≡ Ok (rows, here)
      ran_so = (λ i. epoch_answers m show (sym setting_is i) (sym number i) now.desk.rows (sym epoch_is i)) ∙ ran

      settled_answers : told m show old.setting 1 old.epoch old.rows settled ≡ Ok (rows, f.text ++ here)
      settled_answers =
          told-append m show old.setting 1 old.epoch old.rows f.turns (Epoch f.asked ∷ [])
          ∙ ap (λ w. and_then w (λ (h : Rows Row × List ℕ). behind m show old.setting h.1 (told m show old.setting (1 + length (lines_in f.turns)) (old.epoch + epochs_in f.turns) h.0 (Epoch f.asked ∷ [])))) f.answered
          ∙ ap (λ w. behind m show old.setting f.text (and_then w (λ (h : Rows Row × List ℕ). Ok (h.0, h.1 ++ [])))) ran_so
          ∙ ap (λ w. Ok (rows, f.text ++ w)) (append-nil here)

      spells : epoch_in grammar partitions line ≡ Ok (batches_of now.waiting) → AreSpelled grammar partitions settled (f.added ++ line ∷ [])
      spells is = spelled-append grammar partitions f.turns (Epoch f.asked ∷ []) f.added (line ∷ []) f.spelled (f.waits waits, is ∙ ap Ok epoch_is, refl)

      abbrev pub after : Standing Row
      after = record { setting = now.desk.setting; lines = option_map (λ ls. ls ++ line ∷ []) now.desk.lines; failures = now.desk.failures; epoch = now.desk.epoch + 1; rows = rows }

      after_is : after ≡ record { setting = old.setting; lines = option_map (λ ls. ls ++ (f.added ++ line ∷ [])) old.lines; failures = old.failures; epoch = old.epoch + length (f.added ++ line ∷ []); rows = rows }
      after_is =
          let next : (old.epoch + length f.added) + 1 ≡ old.epoch + length (f.added ++ line ∷ []) = omega (arith, length-append f.added (line ∷ [])) in
          ap (λ (d : Standing Row). record { setting = d.setting; lines = option_map (λ ls. ls ++ line ∷ []) d.lines; failures = d.failures; epoch = d.epoch + 1; rows = rows }) f.stands
          ∙ (λ i. record { setting = old.setting; lines = more-more old.lines f.added (line ∷ []) i; failures = old.failures; epoch = next i; rows = rows })

      pub follow_settle : epoch_in grammar partitions line ≡ Ok (batches_of now.waiting) → (out_new : Option (List ℕ)) → Appends out_now out_new here
          → Follows m show grammar old out lines (record { desk = after; waiting = gathered partitions []; count = now.count; waits = false }) out_new
      follow_settle is out_new printed = record {
        turns = settled;
        asked = [];
        read = append-nil (lines_in settled) ∙ settled_lines;
        count = f.count;
        waiting = refl;
        rests = λ _. refl;
        waits = λ yes. absurd (cc yes);
        text = f.text ++ here;
        answered = settled_answers;
        printed = appends-more out out_now out_new f.text here f.printed printed;
        added = f.added ++ line ∷ [];
        spelled = spells is;
        stands = after_is;
      }

      -- its answers went out in part
      pub ends_settled : epoch_in grammar partitions line ≡ Ok (batches_of now.waiting) → (out_new : Option (List ℕ)) (n : ℕ) → Appends out_now out_new (take n here)
          → (disk : Option Disk) → Becomes (option_map (λ ls. (ls, ls)) (option_map (λ ls. ls ++ line ∷ []) now.desk.lines)) disk → Ends m show grammar old out lines disk out_new
      ends_settled is out_new n printed disk left = record {
        turns = settled;
        next = [];
        one_more = inl refl;
        read = prefix-refl (lines_in (settled ++ [])) lines (ap lines_in (append-nil settled) ∙ settled_lines);
        rows = rows;
        text = f.text ++ here;
        answered = settled_answers;
        size = length f.text + n;
        printed = subst (Appends out out_new) (sym (take-behind f.text here n)) (appends-more out out_now out_new f.text (take n here) f.printed printed);
        added = f.added ++ line ∷ [];
        more = [];
        spelled = spells is;
        spelled_next = refl;
        journal = bounds-both old.lines (f.added ++ line ∷ []) disk (subst (λ o. Becomes (option_map (λ ls. (ls, ls)) o) disk) (ap (λ (d : Standing Row). d.lines) after_is) left);
      }

    -- ---- the end

    whole : Appends out out_now (take (length f.text) f.text)
    whole = subst (Appends out out_now) (sym (take_all (length f.text) f.text (omega arith))) f.printed

    pub ends_here : (disk : Option Disk) → Becomes (option_map (λ ls. (ls, ls)) now.desk.lines) disk → Ends m show grammar old out lines disk out_now
    ends_here disk left = record {
      turns = f.turns;
      next = [];
      one_more = inl refl;
      read = (map Ok f.asked, ap (λ w. w ++ map Ok f.asked) (ap lines_in (append-nil f.turns)) ∙ f.read);
      rows = now.desk.rows;
      text = f.text;
      answered = f.answered;
      size = length f.text;
      printed = whole;
      added = f.added;
      more = [];
      spelled = f.spelled;
      spelled_next = refl;
      journal = bounds-both old.lines f.added disk (subst (λ o. Becomes (option_map (λ ls. (ls, ls)) o) disk) (ap (λ (d : Standing Row). d.lines) f.stands) left);
    }

    pub ends_next : now.waits ≡ true → (line : List ℕ) → epoch_in grammar partitions line ≡ Ok (batches_of now.waiting)
        → (disk : Option Disk) → Becomes (option_map (λ ls. (ls, ls ++ line ∷ [])) now.desk.lines) disk → Ends m show grammar old out lines disk out_now
    ends_next waits line is disk left = record {
      turns = f.turns;
      next = Epoch f.asked ∷ [];
      one_more = inr (f.asked, refl);
      read = prefix-refl (lines_in settled) lines settled_lines;
      rows = now.desk.rows;
      text = f.text;
      answered = f.answered;
      size = length f.text;
      printed = whole;
      added = f.added;
      more = line ∷ [];
      spelled = f.spelled;
      spelled_next = (f.waits waits, is ∙ ap Ok epoch_is, refl);
      journal = bounds-one old.lines f.added line disk (subst (λ o. Becomes (option_map (λ ls. (ls, ls ++ line ∷ [])) o) disk) (ap (λ (d : Standing Row). d.lines) f.stands) left);
    }

    -- ---- a line is refused

    module _ (none : now.waits ≡ false) (fault : Fault) where
      abbrev refused : List (Turn Args)
      refused = f.turns ++ Refusal fault ∷ []

      read_all : lines_in f.turns ≡ lines
      read_all = sym (append-nil (lines_in f.turns)) ∙ ap (λ w. lines_in f.turns ++ map Ok w) (sym (f.rests none)) ∙ f.read

      refused_lines : lines_in refused ≡ lines ++ Err fault ∷ []
      refused_lines = lines_in-append f.turns (Refusal fault ∷ []) ∙ ap (λ w. w ++ Err fault ∷ []) read_all

      place : 1 + length (lines_in f.turns) ≡ now.count + 1
      place = omega (arith, ap length read_all, f.count)

      refused_answers : told m show old.setting 1 old.epoch old.rows refused ≡ Ok (now.desk.rows, f.text ++ refusal (now.count + 1) fault)
      refused_answers =
          told-append m show old.setting 1 old.epoch old.rows f.turns (Refusal fault ∷ [])
          ∙ ap (λ w. and_then w (λ (h : Rows Row × List ℕ). behind m show old.setting h.1 (told m show old.setting (1 + length (lines_in f.turns)) (old.epoch + epochs_in f.turns) h.0 (Refusal fault ∷ [])))) f.answered
          ∙ ap (λ n. Ok (now.desk.rows, f.text ++ (refusal n fault ++ []))) place
          ∙ ap (λ w. Ok (now.desk.rows, f.text ++ w)) (append-nil (refusal (now.count + 1) fault))

      spells_too : AreSpelled grammar partitions refused f.added
      spells_too = subst (AreSpelled grammar partitions refused) (append-nil f.added) (spelled-append grammar partitions f.turns (Refusal fault ∷ []) f.added [] f.spelled refl)

      pub follow_refuse : (out_new : Option (List ℕ)) → Appends out_now out_new (refusal (now.count + 1) fault)
          → Follows m show grammar old out (lines ++ Err fault ∷ []) (record { desk = now.desk; waiting = now.waiting; count = now.count + 1; waits = false }) out_new
      follow_refuse out_new printed = record {
        turns = refused;
        asked = [];
        read = append-nil (lines_in refused) ∙ refused_lines;
        count = ap (λ n. n + 1) f.count ∙ sym (length-append lines (Err fault ∷ []));
        waiting = f.waiting ∙ ap (gathered partitions) (f.rests none);
        rests = λ _. refl;
        waits = λ yes. absurd (cc yes);
        text = f.text ++ refusal (now.count + 1) fault;
        answered = refused_answers;
        printed = appends-more out out_now out_new f.text (refusal (now.count + 1) fault) f.printed printed;
        added = f.added;
        spelled = spells_too;
        stands = f.stands;
      }

      pub ends_refused : (out_new : Option (List ℕ)) (n : ℕ) → Appends out_now out_new (take n (refusal (now.count + 1) fault))
          → (disk : Option Disk) → Becomes (option_map (λ ls. (ls, ls)) now.desk.lines) disk → Ends m show grammar old out (lines ++ Err fault ∷ []) disk out_new
      ends_refused out_new n printed disk left = record {
        turns = refused;
        next = [];
        one_more = inl refl;
        read = prefix-refl (lines_in (refused ++ [])) (lines ++ Err fault ∷ []) (ap lines_in (append-nil refused) ∙ refused_lines);
        rows = now.desk.rows;
        text = f.text ++ refusal (now.count + 1) fault;
        answered = refused_answers;
        size = length f.text + n;
        printed = subst (Appends out out_new) (sym (take-behind f.text (refusal (now.count + 1) fault) n)) (appends-more out out_now out_new f.text (take n (refusal (now.count + 1) fault)) f.printed printed);
        added = f.added;
        more = [];
        spelled = spells_too;
        spelled_next = refl;
        journal = bounds-both old.lines f.added disk (subst (λ o. Becomes (option_map (λ ls. (ls, ls)) o) disk) (ap (λ (d : Standing Row). d.lines) f.stands) left);
      }

  -- more lines were read
  pub ends_more : (disk : Option Disk) (out_now : Option (List ℕ)) (later : List (Result (Asked Args) Fault)) → Ends m show grammar old out lines disk out_now → Ends m show grammar old out (lines ++ later) disk out_now
  ends_more disk out_now later e = record {
    turns = e.turns;
    next = e.next;
    one_more = e.one_more;
    read = prefix-more (lines_in (e.turns ++ e.next)) lines later e.read;
    rows = e.rows;
    text = e.text;
    answered = e.answered;
    size = e.size;
    printed = e.printed;
    added = e.added;
    more = e.more;
    spelled = e.spelled;
    spelled_next = e.spelled_next;
    journal = e.journal;
  }

-- nothing was read yet
pub follow_start : {Args Row Reply : Type 0} (m : Meaning Args Row Reply) (show : Reply → List ℕ) (grammar : Grammar Args) (old : Standing Row) (out : Option (List ℕ))
    → Follows m show grammar old out [] (record { desk = old; waiting = gathered old.setting.partitions []; count = 0; waits = false }) out
follow_start m show grammar old out =
    let none : old.epoch ≡ old.epoch + 0 = omega arith in
    record {
      turns = [];
      asked = [];
      read = refl;
      count = refl;
      waiting = refl;
      rests = λ _. refl;
      waits = λ yes. absurd (cc yes);
      text = [];
      answered = refl;
      printed = appends-none out;
      added = [];
      spelled = refl;
      stands = λ i. record { setting = old.setting; lines = more-none old.lines i; failures = old.failures; epoch = none i; rows = old.rows };
    }

-- what is known of a refusal
pub err_then : {T E : Type 0} (r : Result T E) {P Q : E → Type 0} → ((e : E) → P e → Q e) → IfErr r P → IfErr r Q
err_then (Ok value) f h = tt
err_then (Err e) f h = f e h

pub ok_then : {T E : Type 0} (r : Result T E) {P Q : T → Type 0} → ((t : T) → P t → Q t) → IfOk r P → IfOk r Q
ok_then (Ok t) f h = f t h
ok_then (Err e) f h = tt
