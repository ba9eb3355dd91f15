-- What all nodes of a store are opened with, and the order that it gives to batches (Thomson et al. 2012, section 3.1:
-- every scheduler interleaves the batches of an epoch in one fixed way).
use Rattle.std.specs.Prelude.{ℕ, Bool, false, true, zero, suc, nat_le, if◌then◌else◌, List, [], ◌∷◌, ◌++◌, length, Option, Some, None}
use Rattle.calvin_types.specs.declared.config.Config.{Config as TheConfig}
use Rattle.calvin_types.specs.declared.place.Place.{Place}
use Rattle.calvin_types.specs.declared.place.Slot.{Slot}
use Rattle.calvin_types.specs.Orders.{Rises}
use Rattle.calvin_order.specs.Merged.{Assignment, joined, numbered}

-- how many replicas and partitions there are, what the keepers of rows can do, and when requests join queues and batches are woven
pub record Config : Type 0 where
  pub replicas : ℕ
  pub partitions : ℕ
  -- the keepers of rows have points of consistency (section 5)
  pub points : Bool
  -- and a cold table (section 4: rows on disk)
  pub cold : Bool
  -- after how many closings a request that may touch such rows joins the queue (section 4)
  pub delay : ℕ
  -- the first epoch whose batches are woven, if there is one
  pub woven_from : Option ℕ

-- what a store is opened with in code, over keepers of rows that can do so much
abbrev pub config_of : TheConfig → Bool → Bool → Config
config_of c points cold = record { replicas = c.replicas; partitions = c.partitions; points = points; cold = cold; delay = c.delay; woven_from = c.woven_from }

-- the same where nothing is known of the rows, which no order goes by (law `same_orders`)
abbrev pub order_config : TheConfig → Config
order_config c = config_of c false false

-- so many partitions and replicas, this delay and first woven epoch, over rows with points and a cold table, as those of the commands have
abbrev pub store_config : ℕ → ℕ → ℕ → Option ℕ → Config
store_config partitions replicas delay woven_from = record { replicas = replicas; partitions = partitions; points = true; cold = true; delay = delay; woven_from = woven_from }

-- a configuration over keepers of rows that can do so much
abbrev pub over : Config → Bool → Bool → Config
over c points cold = record c { points = points; cold = cold }

-- the batches of this epoch are woven
abbrev pub is_woven : Option ℕ → ℕ → Bool
is_woven None e = false
is_woven (Some f) e = nat_le f e

-- what stands in batches is requests, or requests with what else is known of each
module _ {T : Type 0} where
  -- the request of this number in a batch, from 0, if there is one
  abbrev pub at_number : List T → ℕ → List T
  at_number [] n = []
  at_number (t ∷ ts) zero = t ∷ []
  at_number (t ∷ ts) (suc n) = at_number ts n

  -- the n-th requests of the groups below g, by ascending group
  abbrev pub layer : (Slot → List T) → ℕ → ℕ → ℕ → List T
  layer B e zero n = []
  layer B e (suc g) n = layer B e g n ++ at_number (B (record { epoch = e; group = g })) n

  -- the first requests of these groups, then the second ones, and so on, k times
  abbrev pub layers : (Slot → List T) → ℕ → ℕ → ℕ → List T
  layers B e g zero = []
  layers B e g (suc k) = layers B e g k ++ layer B e g k

  -- the batches of epoch e of the groups below g, woven: by number in the batch, then by group. None is longer than all together
  abbrev pub woven : (Slot → List T) → ℕ → ℕ → List T
  woven B e g = layers B e g (length (joined B e g))

  -- the batches of an epoch as one: whole batches by ascending group, or woven
  abbrev pub together : Config → (Slot → List T) → ℕ → List T
  together c B e = if is_woven c.woven_from e then woven B e c.partitions else joined B e c.partitions

  -- one epoch: the n-th request has the place (e, n)
  abbrev pub merged : Config → (Slot → List T) → ℕ → List (Place × T)
  merged c B e = numbered e 0 (together c B e)

  -- n epochs from e on, one after another
  abbrev pub stretch : Config → (Slot → List T) → ℕ → ℕ → List (Place × T)
  stretch c B e zero = []
  stretch c B e (suc n) = merged c B e ++ stretch c B (suc e) n

  -- the first n epochs
  abbrev pub order : Config → (Slot → List T) → ℕ → List (Place × T)
  order c B n = stretch c B 0 n

-- the places of the first epochs' order rise, in whatever configuration, however many they are and whatever their batches
abbrev pub OrdersRise : Type 0 → Type 0
OrdersRise Args = (c : Config) (n : ℕ) (B : Assignment Args) → Rises (order c B n)
