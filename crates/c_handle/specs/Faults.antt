-- Why a call through a handle is not made. Own.
use Rattle.std.specs.Prelude.{◌≡◌, ◌≢◌, ℕ, ◌+◌, ◌<◌, ◌≤◌, Option, None, Some}
use Rattle.bl_map.specs.MachineFacts.{MachineFacts}
use Rattle.bl_mem.specs.Memory.{HasRoom}
use Rattle.bl_session.specs.session.Phases.{SessionFacts}
use Rattle.c_handle.specs.declared.handle_fault.HandleFault.{HandleFault}
use Rattle.c_handle.specs.declared.handle_fault.HandleFault.TheVariants.{NoSession, WrongSize}
use Rattle.c_handle.specs.declared.handle_fault.HandleFault.TheVariants.{BelowBase}

-- memory of so many bytes from `base` on ends where the machine does not, or ends there and begins
-- after the first byte of the pool
abbrev pub IsMemoryFault : MachineFacts → (base count : ℕ) → HandleFault → Type 0
IsMemoryFault machine base count NoSession = ⊥
IsMemoryFault machine base count WrongSize = base + count ≢ machine.size
IsMemoryFault machine base count BelowBase =
    (base + count ≡ machine.size) × (machine.pool.start < machine.pool.end)
    × (machine.pool.start < base)

-- memory of so many bytes from `base` on is the machine's up to its end, and has the pool
abbrev pub IsMachineMemory : MachineFacts → (base count : ℕ) → Type 0
IsMachineMemory machine base count =
    (base + count ≡ machine.size)
    × HasRoom (λ a. base ≤ a) machine.pool.start machine.pool.end

-- no session is kept, or the memory does not suit its machine
abbrev pub IsHandleFault : Option SessionFacts → (base count : ℕ) → HandleFault → Type 0
IsHandleFault None base count fault = fault ≡ NoSession
IsHandleFault (Some session) base count fault =
    IsMemoryFault session.boot.machine base count fault
