-- Where a key stands among writes.
use Rattle.std.proofs.Common.{◌≡◌, ℕ, ◌+◌, ◌<◌, ◌≤◌, Bool, true, false, cond, ◌||◌, List, [], ◌∷◌, ◌++◌, length, take, drop, Some, slice_get, sym, ◌∙◌, ap, append_assoc}
use Rattle.std.proofs.lemmas.List.{take_all, drop_all}
use Rattle.std.proofs.lemmas.Option.{slice_get_within}
use Rattle.calvin_types.specs.declared.key.Key.{Key}
use Rattle.calvin_types.specs.Keys.{has}
use Rattle.calvin_types.proofs.Fews.{drop_at, take_at}
use Rattle.calvin_types.specs.SameKeys.{equal_keys}
use Rattle.calvin_app.specs.Writing.{with_write, keys_of}
use Rattle.calvin_app.specs.EntryPlaces.{IsUnwritten, IsWrittenAt}
use Rattle.calvin_app.proofs.Puts.{equal_keys-is, set_is}

module _ {Row : Type 0} (k : Key) (ws : List (Key × Row)) (i : ℕ) (w : Key × Row) (here : slice_get ws i ≡ Some w)
    (so : (row : Row) → with_write k row ws ≡ take i ws ++ with_write k row (drop i ws)) (missing : has (keys_of ws) k ≡ has (keys_of (drop i ws)) k) where
  within : i < length ws
  within = slice_get_within ws i w here

  write_at : (r : Row) (b : Bool) → b ≡ equal_keys k w.0 → with_write k r ws ≡ take i ws ++ cond b ((k, r) ∷ drop (i + 1) ws) (w ∷ with_write k r (drop (i + 1) ws))
  write_at r b is = so r ∙ ap (λ xs. take i ws ++ with_write k r xs) (drop_at ws i w here) ∙ ap (λ b. take i ws ++ cond b ((k, r) ∷ drop (i + 1) ws) (w ∷ with_write k r (drop (i + 1) ws))) (sym (is ∙ equal_keys-is k w.0))

  missing_at : (b : Bool) → b ≡ equal_keys k w.0 → has (keys_of ws) k ≡ (b || has (keys_of (drop (i + 1) ws)) k)
  missing_at b is = missing ∙ ap (λ xs. has (keys_of xs) k) (drop_at ws i w here) ∙ ap (λ b. b || has (keys_of (drop (i + 1) ws)) k) (sym (is ∙ equal_keys-is k w.0))

  pub written_place : true ≡ equal_keys k w.0 → IsWrittenAt k ws i
  written_place is = record {
    within = within;
    there = missing_at true is;
    put_is = λ r. write_at r true is ∙ sym (set_is ws i (k, r) within);
  }

  pub write_later : false ≡ equal_keys k w.0 → (row : Row) → with_write k row ws ≡ take (i + 1) ws ++ with_write k row (drop (i + 1) ws)
  write_later is r = write_at r false is ∙ sym (append_assoc (take i ws) (w ∷ []) (with_write k r (drop (i + 1) ws))) ∙ ap (λ xs. xs ++ with_write k r (drop (i + 1) ws)) (sym (take_at ws i w here))

  pub missing_later : false ≡ equal_keys k w.0 → has (keys_of ws) k ≡ has (keys_of (drop (i + 1) ws)) k
  missing_later is = missing_at false is

pub unwritten : {Row : Type 0} (k : Key) (ws : List (Key × Row)) (i : ℕ) → length ws ≤ i → ((row : Row) → with_write k row ws ≡ take i ws ++ with_write k row (drop i ws)) → has (keys_of ws) k ≡ has (keys_of (drop i ws)) k → IsUnwritten k ws
unwritten k ws i past so missing = record {
  missing = missing ∙ ap (λ xs. has (keys_of xs) k) (drop_all i ws past);
  put_is = λ r. so r ∙ ap (λ xs. take i ws ++ with_write k r xs) (drop_all i ws past) ∙ ap (λ xs. xs ++ (k, r) ∷ []) (take_all i ws past);
}
