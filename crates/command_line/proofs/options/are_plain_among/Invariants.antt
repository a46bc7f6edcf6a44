use Rattle.std.proofs.Common.{◌≡◌, map, drop}
use Rattle.std.specs.List.{list_all}
use Rattle.command_line.specs.Found.{given_in}
use Rattle.command_line.specs.Options.{is_plain}
use Rattle.command_line.proofs.options.are_plain_among.Given as goal

abbrev pub invariant-loop-name : goal.invariant-loop-name
invariant-loop-name l =
    list_all (λ name. is_plain (given_in l.found name)) (map (λ name. name.now) l.names)
    ≡ list_all (λ name. is_plain (given_in l.found name)) (map (λ name. name.now) (drop l.name-index l.names))
