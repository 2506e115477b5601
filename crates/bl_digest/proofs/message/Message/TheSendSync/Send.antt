use denote.Param.Send.{IsSend, owning_send}
use Rattle.bl_digest.specs.contracts.message.Message.{the_row, the_type}

pub send : IsSend the_row
send = owning_send the_type tt (λ m. tt) (λ k x w. tt)
