use Rattle.std.proofs.Common.{List, get_or, subst, sym, ℕ, ◌<◌, ◌∙◌}
use Rattle.mb_keyed.proofs.keyed_graph.KeyedGraph.of.Goals as goal
use Rattle.mb_matrix.proofs.Suits.{suits}
use Rattle.mb_matrix.specs.Key.{Suits}
use Rattle.mb_matrix.specs.declared.digit.Digit.{Digit}

pub steps_of-requires : goal.steps_of-requires
steps_of-requires c = record {
  cells = λ k d l.
      let s : Suits c.args.keys.now c.args.start.now =
      subst (λ (digits : List Digit). Suits digits c.args.start.now) (sym c.requires.keys)
      (suits c.args.matrix.now c.cols-cells.ensures.sound c.args.start.now c.requires.cells) in
      subst (λ (n : ℕ). (get_or c.args.keys.now k d).cell < n) (c.requires.cells ∙ sym
      c.requires.width) (s.cells k d l);
}
