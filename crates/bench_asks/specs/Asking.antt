-- Whether a line asks the unit that is there.
use Rattle.std.specs.Prelude.{Bool, true, false, Result, Ok, Err}
use Rattle.bench_asks.specs.declared.Asks.{Asks}
use Rattle.bench_asks.specs.declared.Asks.TheVariants.{Make, Request, Unit as AsksUnit}
use Rattle.bench_asks.specs.declared.Unasked.{Unasked}

abbrev pub asks_unit : Result Asks Unasked → Bool
asks_unit (Ok (Make settings)) = false
asks_unit (Ok (Request unit now length)) = true
asks_unit (Ok (AsksUnit unit asked)) = true
asks_unit (Err unasked) = false
