use Rattle.std.proofs.Common.{◌≡◌, ◌⊎◌, ℕ, List, Some, None, inl, inr, refl}
use Rattle.std.specs.Prelude.{Option}
use Rattle.bl_bzimage.specs.declared.setup.Setup.{Setup}
use Rattle.bl_bzimage.specs.declared.fault.SetupFault.{SetupFault}
use Rattle.bl_bzimage.specs.Setup.{IsSetup, setup_fault, setup_of}
use Rattle.bl_bzimage.proofs.laws.setup_is_determined.Goals as goal

-- a setup where there is no fault, else the fault
by_fault : (bytes : List ℕ) (found : Option SetupFault) → setup_fault bytes ≡ found
    → ((setup : Setup) × IsSetup bytes setup)
    ⊎ ((fault : SetupFault) × (setup_fault bytes ≡ Some fault))
by_fault bytes None sound = inl (setup_of bytes, record { sound = sound; is = refl })
by_fault bytes (Some fault) faulty = inr (fault, faulty)

pub returns-clause-either : goal.returns-clause-either
returns-clause-either c = λ bytes. by_fault bytes (setup_fault bytes) refl
