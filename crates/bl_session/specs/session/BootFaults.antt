-- Why nothing is handed over: numbers and texts. Own.
use Rattle.std.specs.Prelude.{ℕ, List, codes}
use Rattle.bl_session.specs.declared.session.outcome.BootFault.{BootFault}
use Rattle.bl_session.specs.declared.session.outcome.BootFault.TheVariants.{NoEntryLeft, NoMemory}

abbrev pub boot_fault_number : {A : Type 0} → BootFault A → ℕ
-- >>> tools/refusals: number cases of BootFault
boot_fault_number (NoEntryLeft refusals) = 40
boot_fault_number NoMemory = 41

-- <<<

-- how it prints
abbrev pub boot_fault_text : {A : Type 0} → BootFault A → List ℕ
boot_fault_text (NoEntryLeft refused) = codes "no entry is left"
boot_fault_text NoMemory = codes "no memory"
