-- How a list of events goes on, wide or not.
--     begins_so      it begins with the same events of the same store
--     by_wide, by_plain      it goes on as the run says, wide or not
--     only_wide, only_by      the faults are those of the run, wide or not
use Rattle.std.proofs.Common.{◌≡◌, Bool, false, true, List, Result, Ok, Err, IfOk, IfErr, refl, sym, subst}
use mathlib.Core.List.{IsPrefix}
use Rattle.calvin_types.specs.declared.fault.Fault.{Fault}
use Rattle.calvin_types.specs.declared.fault.Fault.TheVariants.{OutOfMemory, NoRun, NotEnded}
use Rattle.calvin_app.specs.Meaning.{Meaning}
use Rattle.calvin_order.specs.Configs.{Config}
use Rattle.calvin_world.specs.declared.event.Event.{Event}
use Rattle.calvin_book.specs.Books.{Log}
use Rattle.calvin_wide_run.specs.Running.{BeginsAtNodes, IsWideFault}
use Rattle.calvin_run.specs.Engine.{Begins, IsClusterFault}

module _ {Args Row Reply : Type 0} (m : Meaning Args Row Reply) where
  pub begins_so : (before : Log Args) (c : Config) (events after : List (Event Args)) (wide : Bool) → c ≡ before.config → before.events ≡ events → Begins m before.config before.events after wide → Begins m c events after wide
  begins_so before c events after wide config same begins =
      subst (λ (d : Config). Begins m d events after wide) (sym config) (subst (λ (es : List (Event Args)). Begins m before.config es after wide) same begins)

  pub by_wide : (before : Log Args) (r : Result (Log Args) Fault) (wide : Bool) → wide ≡ true → IfOk r (λ b. BeginsAtNodes m before.config before.events b.events) → IfOk r (λ b. Begins m before.config before.events b.events wide)
  by_wide before r wide is begins = subst (λ (w : Bool). IfOk r (λ b. Begins m before.config before.events b.events w)) (sym is) begins

  pub by_plain : (before : Log Args) (r : Result (Log Args) Fault) (wide : Bool) → wide ≡ false → IfOk r (λ b. IsPrefix before.events b.events) → IfOk r (λ b. Begins m before.config before.events b.events wide)
  by_plain before r wide is begins = subst (λ (w : Bool). IfOk r (λ b. Begins m before.config before.events b.events w)) (sym is) begins

wide_fault : (fault : Fault) → IsWideFault fault → IsClusterFault true fault
wide_fault OutOfMemory is = tt
wide_fault NotEnded is = tt
wide_fault NoRun is = refl
wide_fault fault is = absurd is

pub only_by : {X : Type 0} (r : Result X Fault) (wide is : Bool) → wide ≡ is → IfErr r (IsClusterFault is) → IfErr r (IsClusterFault wide)
only_by r wide is same only = subst (λ (w : Bool). IfErr r (IsClusterFault w)) (sym same) only

pub only_wide : {X : Type 0} (r : Result X Fault) (wide : Bool) → wide ≡ true → IfErr r IsWideFault → IfErr r (IsClusterFault wide)
only_wide (Ok x) wide same only = tt
only_wide (Err fault) wide same only = subst (λ (w : Bool). IsClusterFault w fault) (sym same) (wide_fault fault only)
