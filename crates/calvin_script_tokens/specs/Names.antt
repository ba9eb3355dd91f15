-- The name that an operation has before the name of its request was read. The notion is of this project.
use Rattle.calvin_types.specs.declared.place.RequestId.{RequestId}

abbrev pub nameless : RequestId
nameless = record { client = 0; number = 0 }
