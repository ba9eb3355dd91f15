-- Members that come in any order.
use Rattle.std.proofs.Common.{◌≡◌, ◌&&◌, ℕ, List, Bool, true, false, Option, Some, None, option_map, bytes_eq, IfSome, refl, sym, ap, ◌∙◌, Ordering, Less, Equal, Greater, nat_cmp}
use Rattle.std.proofs.lemmas.Bool.{false≢true}
use Rattle.std.proofs.lemmas.Slice.Eq.{bytes_eq-Decides}
use Rattle.std.specs.Cmp.Lexicographic.{slice_cmp}
use Rattle.std.specs.Ordering.{match_ordering}
use Rattle.std.specs.List.{list_any}
use Rattle.serde_json.specs.Data.{Data, Members, no_members, member, put}
use Rattle.serde_json.specs.Find.{get_member}
use Rattle.serde_json.proofs.Views.{get_member-put, get_member-put_other}
use Rattle.calvin_script.specs.Spelling.{are_named}
use Rattle.calvin_script_tokens.specs.Gathered.{spelled_by}

-- ---- names

both : (a b c : Bool) → (a && b) ≡ true → c ≡ true → (a && c) ≡ true
both true b c h k = k
both false b c h k = h

second : (a b : Bool) → (a && b) ≡ true → b ≡ true
second true b h = h
second false b h = absurd (false≢true h)

named_put_at : (o : Ordering) (names : List (List ℕ)) (k l : List ℕ) (d e : Data) (ms : Members) → list_any (bytes_eq k) names ≡ true → are_named names (member l e ms) ≡ true → are_named names (put k d ms) ≡ true
    → are_named names (match_ordering o (member k d (member l e ms)) (member l d ms) (member l e (put k d ms))) ≡ true
named_put_at Less names k l d e ms is h later = rw is h
named_put_at Equal names k l d e ms is h later = h
named_put_at Greater names k l d e ms is h later = both (list_any (bytes_eq l) names) (are_named names ms) (are_named names (put k d ms)) h later

pub named_put : (names : List (List ℕ)) (k : List ℕ) (d : Data) (ms : Members) → list_any (bytes_eq k) names ≡ true → are_named names ms ≡ true → are_named names (put k d ms) ≡ true
named_put names k d no_members is h = rw is refl
named_put names k d (member l e ms) is h = named_put_at (slice_cmp nat_cmp k l) names k l d e ms is h (named_put names k d ms is (second (list_any (bytes_eq l) names) (are_named names ms) h))

-- ---- what one member spells when another joins

apart : (a b : List ℕ) → bytes_eq a b ≡ false → a ≡ b → ⊥
apart a b ne e = false≢true (sym ne ∙ (bytes_eq-Decides a b).1 e)

module _ (name : List ℕ) (d : Data) (found : Members) where
  pub found_other : (other : List ℕ) → bytes_eq other name ≡ false → get_member other (put name d found) ≡ get_member other found
  found_other other ne = get_member-put_other other name d found (apart other name ne)

  module _ {A : Type 0} (f : Data → Option A) where
    pub spelled_same : (x : A) → f d ≡ Some x → spelled_by f name (put name d found) ≡ Some (Some x)
    spelled_same x means = ap (option_map f) (get_member-put name d found) ∙ ap Some means

    pub spelled_other : (other : List ℕ) (before : Option (Option A)) → bytes_eq other name ≡ false → spelled_by f other found ≡ before → spelled_by f other (put name d found) ≡ before
    spelled_other other before ne was = ap (option_map f) (found_other other ne) ∙ was

-- ---- what a member that was seen is

abbrev unsome : {A : Type 0} → A → Option A → A
unsome x None = x
unsome x (Some y) = y

module _ {A : Type 0} (f : Data → Option A) where
  pub there : (member : Option Data) (x : A) → option_map f member ≡ Some (Some x) → (d : Data) × (member ≡ Some d) × (f d ≡ Some x)
  there None x e = absurd (cc)
  there (Some d) x e = (d, refl, ap (unsome (f d)) e)

  pub missing : (member : Option Data) → option_map f member ≡ None → member ≡ None
  missing None e = refl
  missing (Some d) e = absurd (cc)

pub if_some : {A : Type 0} (P : A → Type 0) (o : Option A) → ((x : A) → o ≡ Some x → P x) → IfSome o P
if_some P None h = tt
if_some P (Some x) h = h x refl
