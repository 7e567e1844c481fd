-- The words are options exactly where those that are left are; each turn takes two words.
use Rattle.std.proofs.Common.{length, map, ◌+◌, ◌≡◌, ◌≤◌}
use Rattle.mb_desk.specs.Forms.{texts}
use Rattle.mb_desk.specs.Options.{are_options}
use Rattle.mb_desk.proofs.options.are_options.Given as goal

abbrev pub invariant-loop : goal.invariant-loop
invariant-loop l = record {
  all : are_options (map (λ name. name.now) l.fn.names) (texts l.fn.words)
      ≡ are_options (map (λ name. name.now) l.fn.names) (texts l.rest);
  fewer : length l.rest + l.counter ≤ length l.fn.words;
}
