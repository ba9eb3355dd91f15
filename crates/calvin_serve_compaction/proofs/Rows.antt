-- Lines that keep rows, and what a journal begins with that has them.
use Rattle.std.proofs.Common.{arith, ℕ, suc, ◌≡◌, ◌<◌, ◌+◌, List, [], ◌∷◌, ◌++◌, refl, sym, ◌∙◌, ap, subst, true, length, length-append, take, drop, get_or, append_assoc, append-nil, Option, Some, None, option_map, IfSome, IfOk, Result, Ok, Err}
use Rattle.std.specs.Prelude.{nat_le, if◌then◌else◌}
use Rattle.std.specs.Option.{is_some}
use Rattle.std.specs.FinMap.{empty}
use Rattle.std.proofs.lemmas.Bool.Decides.{nat_tests}
use Rattle.std.proofs.lemmas.List.{take_all, drop_all}
use Rattle.std.proofs.Math.Seq.{take-suc}
use Rattle.serde_json.specs.Data.{Data}
use Rattle.calvin_types.specs.declared.fault.Fault.{Fault}
use Rattle.calvin_types.specs.declared.fault.Fault.TheVariants.{Repeated, BadScript}
use Rattle.calvin_types.specs.declared.key.Key.{Key}
use Rattle.calvin_types.specs.Keys.{are_distinct}
use Rattle.calvin_app.specs.Rows.{Rows, overwritten}
use Rattle.calvin_app.specs.Writing.{keys_of}
use Rattle.calvin_script.specs.Reading.{and_then}
use Rattle.calvin_journal_log.specs.Disks.{Disk}
use Rattle.calvin_serve_desk.specs.Desks.{Standing}
use Rattle.calvin_serve_rows.specs.RowLines.{row_in}
use Rattle.calvin_serve_rows.specs.Starts.{Start, rows_in, starts_by}
use Rattle.calvin_serve_compaction.specs.Compactions.{Compacts, SaysRows, KeepsRows}

-- ---- lines, one behind another

pub two_lines : (a b : List ℕ) (told : Option Disk)
    → option_map (λ (ls : List (List ℕ)). ls ++ b ∷ []) (option_map (λ (ls : List (List ℕ)). ls ++ a ∷ []) (option_map (λ (_ : Disk). []) told)) ≡ option_map (λ _. a ∷ b ∷ []) told
two_lines a b None = refl
two_lines a b (Some disk) = refl

no_more : (old : Option (List (List ℕ))) → old ≡ option_map (λ ls. ls ++ []) old
no_more None = refl
no_more (Some ls) = ap Some (sym (append-nil ls))

one_more : (kept : List (List ℕ)) (line : List ℕ) (old : Option (List (List ℕ)))
    → option_map (λ (ls : List (List ℕ)). ls ++ line ∷ []) (option_map (λ (ls : List (List ℕ)). ls ++ kept) old) ≡ option_map (λ ls. ls ++ (kept ++ line ∷ [])) old
one_more kept line None = refl
one_more kept line (Some ls) = ap Some (append_assoc ls kept (line ∷ []))

module _ (Row : Type 0) (form : Data → Option Row) where
  abbrev Kept : Type 0
  Kept = Result (List (Key × Row)) Fault

  -- ---- the rows of lines

  abbrev joined : Kept → Kept → Kept
  joined a b = and_then a (λ xs. and_then b (λ ys. Ok (xs ++ ys)))

  none_first : (r : Kept) → r ≡ joined (Ok []) r
  none_first (Ok rows) = refl
  none_first (Err fault) = refl

  abbrev behind : Key × Row → Kept → Kept
  behind row r = and_then r (λ rows. Ok (row ∷ rows))

  behind_first : (row : Key × Row) (a b : Kept) → behind row (joined a b) ≡ joined (behind row a) b
  behind_first row (Ok xs) (Ok ys) = refl
  behind_first row (Ok xs) (Err fault) = refl
  behind_first row (Err fault) b = refl

  rows_in-append : (a b : List (List ℕ)) → rows_in form (a ++ b) ≡ joined (rows_in form a) (rows_in form b)
  rows_in-append [] b = none_first (rows_in form b)
  rows_in-append (line ∷ a) b = through (rows_in-append a b) (row_in form line)
    where
      through : rows_in form (a ++ b) ≡ joined (rows_in form a) (rows_in form b) → (here : Result (Key × Row) Fault)
          → and_then here (λ row. behind row (rows_in form (a ++ b))) ≡ joined (and_then here (λ row. behind row (rows_in form a))) (rows_in form b)
      through next (Err fault) = refl
      through next (Ok row) = ap (behind row) next ∙ behind_first row (rows_in form a) (rows_in form b)

  -- one row more
  rows_in-more : (kept : List (List ℕ)) (line : List ℕ) (rows : List (Key × Row)) (row : Key × Row) → rows_in form kept ≡ Ok rows → row_in form line ≡ Ok row
      → rows_in form (kept ++ line ∷ []) ≡ Ok (rows ++ row ∷ [])
  rows_in-more kept line rows row before is =
      rows_in-append kept (line ∷ []) ∙ ap (λ r. joined r (rows_in form (line ∷ []))) before
      ∙ ap (λ (r : Result (Key × Row) Fault). joined (Ok rows) (and_then r (λ row. behind row (Ok [])))) is

  pub keeps_none : (old : Option (List (List ℕ))) → KeepsRows form [] old old
  keeps_none old = record { kept = []; as_many = refl; read = refl; added = no_more old }

  pub keeps_more : (rows : List (Key × Row)) (row : Key × Row) (line : List ℕ) (old new newer : Option (List (List ℕ))) → KeepsRows form rows old new → row_in form line ≡ Ok row
      → newer ≡ option_map (λ ls. ls ++ line ∷ []) new → KeepsRows form (rows ++ row ∷ []) old newer
  keeps_more rows row line old new newer k is next =
      record {
        kept = k.kept ++ line ∷ [];
        as_many = omega (arith, k.as_many, length-append k.kept (line ∷ []), length-append rows (row ∷ []));
        read = rows_in-more k.kept line rows row k.read is;
        added = next ∙ ap (option_map (λ ls. ls ++ line ∷ [])) k.added ∙ one_more k.kept line old;
      }

  take_next : (all : List (Key × Row)) (i : ℕ) (row : Key × Row) → i < length all → row ≡ get_or all i row → take (i + 1) all ≡ take i all ++ row ∷ []
  take_next all i row lt is =
      let next : i + 1 ≡ suc i = omega arith in
      ap (λ n. take n all) next ∙ take-suc all i row lt ∙ ap (λ r. take i all ++ r ∷ []) (sym is)

  pub keeps_next : (all : List (Key × Row)) (i : ℕ) (row : Key × Row) → i < length all → row ≡ get_or all i row → (line : List ℕ) (old new newer : Option (List (List ℕ))) → KeepsRows form (take i all) old new
      → row_in form line ≡ Ok row → newer ≡ option_map (λ ls. ls ++ line ∷ []) new → KeepsRows form (take (i + 1) all) old newer
  keeps_next all i row lt at line old new newer k is next =
      subst (λ rows. KeepsRows form rows old newer) (sym (take_next all i row lt at)) (keeps_more (take i all) row line old new newer k is next)

  -- ---- what a journal begins with

  least : (n : ℕ) → nat_le n n ≡ true
  least n = grind (arith, nat_tests)

  abbrev start : ℕ → Rows Row → Result (Start Row × List (List ℕ)) Fault
  start e all = Ok (record { epoch = e; rows = all }, [])

  abbrev by_rows : ℕ → List (List ℕ) → Kept → Result (Start Row × List (List ℕ)) Fault
  by_rows e rest kept = and_then (and_then kept (λ rows. if are_distinct (keys_of rows) then Ok (record { epoch = e; rows = overwritten empty rows }) else Err Repeated)) (λ begun. Ok (begun, rest))

  begins_by : (e : ℕ) (rows : List (Key × Row)) (all : Rows Row) (line : List ℕ) (kept : List (List ℕ)) (n : ℕ) → n ≡ length kept → rows_in form kept ≡ Ok rows
      → are_distinct (keys_of rows) ≡ true → overwritten empty rows ≡ all → starts_by form (Some (e, n)) line kept ≡ start e all
  begins_by e rows all line kept n is read distinct whole =
      ap (λ b. if b then by_rows e (drop n kept) (rows_in form (take n kept)) else Err BadScript) (ap (λ k. nat_le n k) (sym is) ∙ least n)
      ∙ ap (λ ls. by_rows e (drop n kept) (rows_in form ls)) (take_all n kept (omega (arith, is)))
      ∙ ap (λ rest. by_rows e rest (rows_in form kept)) (drop_all n kept (omega (arith, is)))
      ∙ ap (by_rows e []) read ∙ rw distinct (ap (start e) whole)

  pub compacted : (heading : List ℕ) (desk : Standing Row) (rows : List (Key × Row)) (told : Option Disk) (first lines : Option (List (List ℕ)))
      → SaysRows heading desk.epoch (length rows) told first → KeepsRows form rows first lines → are_distinct (keys_of rows) ≡ true → overwritten empty rows ≡ desk.rows
      → IfSome lines (Compacts form heading desk)
  compacted heading desk rows told first lines s k distinct whole =
      subst (λ o. IfSome o (Compacts form heading desk)) (sym (k.added ∙ ap (option_map (λ ls. ls ++ k.kept)) s.both)) (by_cases told)
    where
      by_cases : (told : Option Disk) → IfSome (option_map (λ ls. ls ++ k.kept) (option_map (λ _. heading ∷ s.line ∷ []) told)) (Compacts form heading desk)
      by_cases None = tt
      by_cases (Some disk) =
          record {
            later = s.line ∷ k.kept;
            whole = refl;
            same = ap (λ (r : Result (Option (ℕ × ℕ)) Fault). and_then r (λ said. starts_by form said s.line k.kept)) s.says
                ∙ begins_by desk.epoch rows desk.rows s.line k.kept (length rows) (sym k.as_many) k.read distinct whole;
          }

  pub tells : (heading : List ℕ) (epoch count : ℕ) (rows : List (Key × Row)) (told : Option Disk) (first lines : Option (List (List ℕ)))
      → SaysRows heading epoch count told first → KeepsRows form rows first lines → is_some lines ≡ is_some told
  tells heading epoch count rows told first lines s k = ap is_some (k.added ∙ ap (option_map (λ ls. ls ++ k.kept)) s.both) ∙ by_cases told
    where
      by_cases : (told : Option Disk) → is_some (option_map (λ (ls : List (List ℕ)). ls ++ k.kept) (option_map (λ _. heading ∷ s.line ∷ []) told)) ≡ is_some told
      by_cases None = refl
      by_cases (Some disk) = refl

pub ok_then : {T E : Type 0} (r : Result T E) {P Q : T → Type 0} → ((x : T) → P x → Q x) → IfOk r P → IfOk r Q
ok_then (Ok x) f h = f x h
ok_then (Err e) f h = tt
