-- The number of each refusal of a load. Assumes nothing.
use Rattle.std.specs.Prelude.{ℕ}
use Rattle.history.specs.FaultNumbers.{fault_cause}
use Rattle.history.specs.Refusals.{refusal_number}
use Rattle.loading.specs.declared.refusal.LoadRefusal.{LoadRefusal}
use Rattle.loading.specs.declared.refusal.LoadRefusal.TheVariants.{HistoryNotEmpty, FileFault, Refused}

abbrev pub load_refusal_number : LoadRefusal → ℕ
load_refusal_number HistoryNotEmpty = 10
load_refusal_number (FileFault fault) = fault_cause fault
load_refusal_number (Refused refusal) = refusal_number refusal
