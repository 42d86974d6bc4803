-- The numbers that a C caller gets.
use Rattle.cancel.specs.Cancelling.{Numbers}
use Rattle.stridebank.specs.declared.StridebankCancelled.{StridebankCancelled}

abbrev pub as_numbers : StridebankCancelled → Numbers
as_numbers r = record { number = r.number; place = r.place; left = r.left; steps = r.steps; walked = r.walked }
