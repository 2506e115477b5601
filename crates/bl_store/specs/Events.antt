-- What is told of a piece. Own.
use Rattle.std.specs.Prelude.{ℕ, List}
use Rattle.bl_store.specs.declared.event.Event.{Event}
use Rattle.bl_store.specs.declared.event.Event.TheVariants.{Piece, Fault}
use Rattle.bl_store.specs.declared.ticket.Ticket.{Ticket}

-- one piece came, or a fault in its place
pub data EventFacts : Type 0 where
  piece : Ticket → (bytes : List ℕ) → EventFacts
  fault : Ticket → EventFacts

-- an event as it is passed
abbrev pub event_facts : Event → EventFacts
event_facts (Piece ticket bytes) = piece ticket bytes.now
event_facts (Fault ticket) = fault ticket
