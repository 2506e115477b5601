-- What whoever drives a boot asks for: the pieces that the attempt which runs awaits, files
-- ascending, and in each of them pieces ascending. Own.
use Rattle.std.specs.Prelude.{length, Option, None}
use Rattle.std.specs.Prelude.{option_map}
use Rattle.bl_store.specs.declared.ticket.Ticket.{Ticket}
use Rattle.bl_session.specs.declared.attempt.request.Request.{Request}
use Rattle.bl_session.specs.menu.Menu.{entry_at}
use Rattle.bl_session.specs.session.BootSteps.{BootFacts, State, on_running}
use Rattle.bl_session.specs.attempt.AwaitedTickets.{first_ticket, request_for, ticket_after}

-- the first piece that the attempt which runs awaits
abbrev pub first_request : BootFacts → State → Option Request
first_request facts state =
    on_running state None (λ entry rest earlier files.
    option_map (request_for (entry_at facts.menu entry).files files)
    (first_ticket (length earlier) 0 files))

-- the first one after that of a ticket
abbrev pub request_after : BootFacts → State → Ticket → Option Request
request_after facts state ticket =
    on_running state None (λ entry rest earlier files.
    option_map (request_for (entry_at facts.menu entry).files files)
    (ticket_after (length earlier) files ticket))
