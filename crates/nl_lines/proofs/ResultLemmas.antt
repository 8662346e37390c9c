-- What holds of every result, told of an error.
use Rattle.std.specs.Prelude.{Result, Ok, Err, OnErr}

pub on_err : {T E : Type 0} (r : Result T E) {P : Type 0} → P → OnErr r P
on_err (Ok x) p = tt
on_err (Err e) p = p
