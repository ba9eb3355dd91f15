-- An object without one of its members.
use Rattle.std.proofs.Common.{◌≡◌, ℕ, List, [], ◌∷◌, Bool, true, false, cond, bytes_eq, codes, Option, Some, None, option_map, sym, ◌∙◌, string_bytes, nat_cmp, String, Global, BTreeMap, refl, ap}
use Rattle.std.proofs.lemmas.Map.Text.{is_eq-slice_cmp}
use Rattle.std.specs.Cmp.Lexicographic.{slice_cmp}
use Rattle.std.specs.Map.{lookup, remove_entry}
use Rattle.std.specs.BTreeMap.{is_at}
use Rattle.serde_json.specs.Data.{Data, null, boolean, number, string, array, object, Members, member}
use Rattle.serde_json.specs.Find.{get, as_object}
use Rattle.serde_json.specs.declared.value.Value.{Value, Object}
use Rattle.serde_json.specs.View.{view, members_view}
use Rattle.serde_json.proofs.Views.{Entry, view-Object, view-lookup}
use Rattle.calvin_serve_lines.specs.Asking.{without_member, without}

kept_or : (b c : Bool) (e : Entry) (es rest : List Entry) (ms : Members) → b ≡ c → members_view rest ≡ ms → members_view (cond b es (e ∷ rest)) ≡ cond c (members_view es) (member (string_bytes e.0) (view e.1) ms)
kept_or true true e es rest ms same is = refl
kept_or false false e es rest ms same is = ap (member (string_bytes e.0) (view e.1)) is
kept_or true false e es rest ms same is = absurd (cc)
kept_or false true e es rest ms same is = absurd (cc)

pub members_without : (name : List ℕ) (es : List Entry) → members_view (remove_entry (is_at (λ k. slice_cmp nat_cmp name (string_bytes k))) es) ≡ without_member name (members_view es)
members_without name [] = refl
members_without name (e ∷ es) = kept_or _ _ e es _ _ (is_eq-slice_cmp name (string_bytes e.0)) (members_without name es)

-- what is no object has no member, and stays
pub no_object : (name : List ℕ) (d : Data) → as_object d ≡ None → (get name d ≡ None) × (without name d ≡ d)
no_object name null h = (refl, refl)
no_object name (boolean b) h = (refl, refl)
no_object name (number n) h = (refl, refl)
no_object name (string s) h = (refl, refl)
no_object name (array ds) h = (refl, refl)
no_object name (object ms) h = absurd (cc)

-- the member `group` is taken out of an object
module _ (m : BTreeMap (String Global) Value) where
  abbrev is_group : String Global → Bool
  is_group = is_at (λ k. slice_cmp nat_cmp (codes "group") (string_bytes k))

  pub group_out : option_map view (lookup is_group m.entries) ≡ get (codes "group") (view (Object m))
  group_out = view-lookup (codes "group") m.entries ∙ sym (ap (get (codes "group")) (view-Object m))

  pub group_kept : (n : BTreeMap (String Global) Value) → n.entries ≡ remove_entry is_group m.entries → view (Object n) ≡ without (codes "group") (view (Object m))
  group_kept n is = view-Object n ∙ ap (λ es. object (members_view es)) is ∙ ap object (members_without (codes "group") m.entries) ∙ sym (ap (without (codes "group")) (view-Object m))
