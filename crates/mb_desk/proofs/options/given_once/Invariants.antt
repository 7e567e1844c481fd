-- The value so far and those among the words that are left are all; each turn takes two words.
use Rattle.std.proofs.Common.{length, ◌+◌, ◌++◌, ◌≡◌, ◌≤◌}
use Rattle.mb_desk.specs.loops.OptionsSoFar.{values_so_far}
use Rattle.mb_desk.specs.Forms.{texts}
use Rattle.mb_desk.specs.Options.{given}
use Rattle.mb_desk.proofs.options.given_once.Given as goal

abbrev pub invariant-loop : goal.invariant-loop
invariant-loop l = record {
  all : given l.fn.name (texts l.fn.words)
      ≡ values_so_far l.found ++ given l.fn.name (texts l.rest);
  fewer : length l.rest + l.counter ≤ length l.fn.words;
}
