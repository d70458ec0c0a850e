-- The paths stand in order, and what was found by line is what the list asks for.
use mathlib.Core.Path.{sym, ◌∙◌}
use Rattle.tape_picks.proofs.Asking.{list_held}
use Rattle.tape_picks.proofs.Searching.{zeros, zeros_long, asked_fit, found_none, found_all}
use Rattle.tape_picks.proofs.find_files.Goals as goal

pub returns-then-not-is_balanced : goal.returns-then-not-is_balanced
returns-then-not-is_balanced c = found_none _ _ _ _ _ _ (sym c.if-not-is_balanced.true ∙ c.is_balanced.ensures)

pub search-requires : goal.search-requires
search-requires c =
    let f = asked_fit _ _ _ _ _ c.lines_asked-count.ensures.0 in
    let w = zeros_long 1024 in
    record {
      index_value = sym c.is_balanced.ensures ∙ c.if-not-is_balanced.false;
      list_held = list_held _ _ f.none f.few _ _ w w _ _ c.fill_paths.ensures c.well_formed.1.0.0 (zeros 1024) w _ c.fill_order.ensures;
      all_fit = ((f.rows.0, (f.rows.1, f.rows.2)), f.few);
    }

pub returns : goal.returns
returns c =
    let w = zeros_long 1024 in
    found_all _ _ _ _ _ _ (sym c.if-not-is_balanced.false ∙ c.is_balanced.ensures) _ c.lines_asked-count.ensures.0 _ _ w w _ _ c.fill_paths.ensures
    _ _ _ _ c.search.ensures
