mod HashingLemmas
mod FillingLemmas
mod StepBytesLemmas
mod RangeLemmas
mod TableLemmas
mod UnderWayLemmas
