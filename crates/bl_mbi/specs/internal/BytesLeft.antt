-- The bytes that the code has still to read, as the definitions see them.
use Rattle.bl_mbi.specs.declared.rest.Rest.{Rest}
use Rattle.bl_mbi.specs.ReadingSteps.{RestFacts}

abbrev pub rest_facts : Rest → RestFacts
rest_facts rest = record { at = rest.at; bytes = rest.bytes.now }

-- what was read, and the bytes behind it
abbrev pub with_rest : {X : Type 0} → X × Rest → X × RestFacts
with_rest read = (read.0, rest_facts read.1)
