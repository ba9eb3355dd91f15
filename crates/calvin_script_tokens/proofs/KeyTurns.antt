-- A set of keys is read key by key.
use Rattle.std.proofs.Common.{◌≡◌, ◌≢◌, ℕ, suc, ◌+◌, ◌≤◌, ◌<◌, ◌&&◌, Bool, true, false, List, [], ◌∷◌, length, Option, option_and_then, nat_le, nat_lt, refl, sym, ap, ◌∙◌, arith}
use Rattle.std.proofs.lemmas.Bool.Decides.{nat_tests}
use Rattle.json.specs.Token.{Token}
use Rattle.serde_json.specs.Data.{Data}
use Rattle.calvin_types.specs.declared.key.Key.{Key}
use Rattle.calvin_types.specs.Keys.{insert_key, takes}
use Rattle.calvin_types.proofs.Risings.{length-grows, length-grows_by}
use Rattle.calvin_script.specs.KeyLists.{set_of, key_set}
use Rattle.calvin_script.proofs.KeySets.{with_more, grown_end}
use Rattle.calvin_script_tokens.specs.Spelled.{Spells}
use Rattle.calvin_script_tokens.proofs.Insides.{SpellsEach}
use Rattle.calvin_script_tokens.proofs.Steps.{each_more, each_end, list_spelled}

too_many : (n : ℕ) → 16 < n → nat_le n 16 ≡ false
too_many n h = grind (arith, nat_tests)

more_new : (k : Key) (ks all : List Key) → length (insert_key k all) ≢ length all → with_more all (k ∷ ks) ≡ with_more (insert_key k all) ks
more_new k ks all h =
    let a = length-grows_by k all in
    let b = length-grows k all in
    let e : length all + suc (length ks) ≡ length (insert_key k all) + length ks = omega arith in
    rw e refl

taken_by : (a b : Bool) (k : Key) (ks all : List Key) → nat_lt (length all) (length (insert_key k all)) ≡ a → (a && b) ≡ true → with_more all (k ∷ ks) ≡ with_more (insert_key k all) ks
taken_by true b k ks all e h = more_new k ks all (λ same. let m : length all < length (insert_key k all) = grind (arith, nat_tests) in omega arith)
taken_by false b k ks all e h = absurd (cc)

more_taken : (k : Key) (ks all : List Key) → takes k all ≡ true → with_more all (k ∷ ks) ≡ with_more (insert_key k all) ks
more_taken k ks all h = taken_by _ _ k ks all refl h

pub none_more : (ks : List Key) → set_of ks ≡ with_more [] ks
none_more ks = let e : 0 + length ks ≡ length ks = omega arith in rw e refl

-- what was read before is at the front of what is read from here on, and gave these keys
abbrev pub Onward : (Data → Option Key) → List Token → List Token → List Key → Type 0
Onward form start ts all = (xs : List Key) (end : List Token) → SpellsEach form 1 ts xs end → (ys : List Key) × SpellsEach form 1 start ys end × (set_of ys ≡ with_more all xs)

pub onward_none : (form : Data → Option Key) (start : List Token) → Onward form start start []
onward_none form start xs end each = (xs, each, none_more xs)

pub onward_more : (form : Data → Option Key) (start ts mid : List Token) (k : Key) (all more : List Key) → Onward form start ts all → Spells form 1 ts k mid → takes k all ≡ true → more ≡ insert_key k all → Onward form start mid more
onward_more form start ts mid k all more onward one new is xs end each =
    let w = onward (k ∷ xs) end (each_more form 1 ts mid end k xs one each) in
    (w.0, w.1, w.2 ∙ more_taken k xs all new ∙ ap (λ m. with_more m xs) (sym is))

pub onward_end : (form : Data → Option Key) (start ts end : List Token) (all : List Key) → Onward form start ts all → ts ≡ Token.end_array ∷ end → length all ≤ 16 → Spells (key_set form) 2 (Token.begin_array ∷ start) all end
unfolding key_set
onward_end form start ts end all onward e few =
    let w = onward [] end (rw e (each_end form 1 end)) in
    let listed = list_spelled form 1 start end w.0 w.1 in
    record { piece = listed.piece; reads = listed.reads; means = ap (option_and_then set_of) listed.means ∙ w.2 ∙ grown_end form all few }
