use Rattle.bl_store.proofs.LedgerLemmas.{ledger_tells}
use Rattle.bl_store.proofs.ledger.Ledger.answer.Goals as goal

pub returns-clause-given : goal.returns-clause-given
returns-clause-given g c =
    (ledger_tells c.args.self.now c.take_answer.new.self c.args.at c.take_answer.result c.requires
    c.take_answer.ensures.answer c.take_answer.ensures.ok c.take_answer.ensures.unchanged).given

pub returns-clause-none : goal.returns-clause-none
returns-clause-none g c =
    (ledger_tells c.args.self.now c.take_answer.new.self c.args.at c.take_answer.result c.requires
    c.take_answer.ensures.answer c.take_answer.ensures.ok c.take_answer.ensures.unchanged).none

pub returns-clause-as_many : goal.returns-clause-as_many
returns-clause-as_many g c =
    (ledger_tells c.args.self.now c.take_answer.new.self c.args.at c.take_answer.result c.requires
    c.take_answer.ensures.answer c.take_answer.ensures.ok c.take_answer.ensures.unchanged).as_many
