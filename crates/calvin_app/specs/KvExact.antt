-- Lemmas: requests and replies of Kv that compare equal are the same.
--     numbers_exact      rows
--     requests_exact      requests
--     replies_exact      replies
use Rattle.std.specs.Prelude.{◌≡◌, ℕ, true, ◌==◌, refl}
use Rattle.std.proofs.Common.{ap}
use Rattle.std.proofs.lemmas.Bool.{eqb-true, false≢true}
use Rattle.calvin_types.specs.SameKeysLaws.{equal_keys_exact}
use Rattle.calvin_types.specs.Exact.{pointwise_exact, option_exact, first, second}
use Rattle.calvin_app.specs.declared.kv.KvRequest.{KvRequest}
use Rattle.calvin_app.specs.declared.kv.KvRequest.TheVariants.{Put, Get, Add, Move, Follow}
use Rattle.calvin_app.specs.declared.kv.KvReply.{KvReply}
use Rattle.calvin_app.specs.declared.kv.KvReply.TheVariants.{Done, Limit, Short, Value, Values, Found}
use Rattle.calvin_app.specs.Meaning.{IsExact}
use Rattle.calvin_app.specs.contracts.kv.KvRequestPartialEq.TheImpl as requests
use Rattle.calvin_app.specs.contracts.kv.KvReplyPartialEq.TheImpl as replies

pub numbers_exact : IsExact (λ (a b : ℕ). a == b)
numbers_exact = eqb-true

pub requests_exact : (a b : KvRequest) → requests.ghosts.eq a b ≡ true → a ≡ b
requests_exact (Put x y) (Put z w) h = λ i. Put (eqb-true x z (first _ _ h) i) (eqb-true y w (second _ _ h) i)
requests_exact (Get x) (Get z) h = ap Get (pointwise_exact _ equal_keys_exact x z h)
requests_exact (Add x y) (Add z w) h = λ i. Add (eqb-true x z (first _ _ h) i) (eqb-true y w (second _ _ h) i)
requests_exact (Move x y n) (Move z w m) h = λ i. Move (eqb-true x z (first _ _ h) i) (eqb-true y w (first _ _ (second _ _ h)) i) (eqb-true n m (second _ _ (second _ _ h)) i)
requests_exact (Follow x) (Follow y) h = ap Follow (eqb-true x y h)
requests_exact _ _ h = absurd (false≢true h)

pub replies_exact : (a b : KvReply) → replies.ghosts.eq a b ≡ true → a ≡ b
replies_exact Done Done h = refl
replies_exact Limit Limit h = refl
replies_exact (Value x) (Value y) h = ap Value (eqb-true x y h)
replies_exact (Values x) (Values y) h = ap Values (pointwise_exact _ (option_exact _ eqb-true) x y h)
replies_exact Short Short h = refl
replies_exact (Found x) (Found y) h = ap Found (option_exact _ eqb-true x y h)
replies_exact _ _ h = absurd (false≢true h)
