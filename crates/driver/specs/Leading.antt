-- Which lines are refused, and which lead to another position. Definitions only.
use Rattle.std.specs.Prelude.{ℕ, Ok, Err, Result, ⊤}
use Rattle.hexboard.specs.Games as games
use Rattle.wire.specs.declared.call.Call.TheVariants as call
use Rattle.text.specs.declared.reading.Line.{Line}
use Rattle.text.specs.declared.reading.Line.TheVariants as line
use Rattle.driver.specs.Served.{Reply, opened, answer}

-- a reply that is a refusal
abbrev pub IsRefusal : Reply → Type 0
IsRefusal (opened n) = ⊥
IsRefusal (answer (games.refused r p)) = ⊤
IsRefusal (answer (games.number n)) = ⊥
IsRefusal (answer (games.way s w)) = ⊥
IsRefusal (answer (games.yes next)) = ⊥
IsRefusal (answer games.no) = ⊥
IsRefusal (answer games.too_many) = ⊥

-- a line asks for a new board, or to change the one there is
abbrev pub AsksForChange : Result Line ℕ → Type 0
AsksForChange (Ok (line.Board n)) = ⊤
AsksForChange (Ok (line.Call (call.Move cell))) = ⊤
AsksForChange (Ok (line.Call call.Back)) = ⊤
AsksForChange (Ok (line.Call call.Who)) = ⊥
AsksForChange (Ok (line.Call call.CanForce)) = ⊥
AsksForChange (Err p) = ⊥

-- it asks for that, and is not refused
abbrev pub LeadsOn : Result Line ℕ → Reply → Type 0
LeadsOn asked reply = AsksForChange asked × (IsRefusal reply → ⊥)
