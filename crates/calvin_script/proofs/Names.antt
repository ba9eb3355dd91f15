-- Objects with the three members that every request has, and with both sets.
use Rattle.std.proofs.Common.{◌≡◌, Some, None, refl}
use Rattle.serde_json.specs.Data.{Data}
use Rattle.calvin_script.specs.Requests.{request, request_of, with_these_alone, with_sets_alone}
use Rattle.calvin_script.specs.Grammar.{Grammar}

module _ {Args : Type 0} (grammar : Grammar Args) (client own_number op : Data) where
  pub short_request : request grammar (with_these_alone client own_number op) ≡ request_of grammar client own_number op 1 None None
  unfolding request
  short_request = refl

  module _ (reads writes : Data) where
    pub declared_request : request grammar (with_sets_alone client own_number op reads writes) ≡ request_of grammar client own_number op 1 (Some reads) (Some writes)
    unfolding request
    declared_request = refl
