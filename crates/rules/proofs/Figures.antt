-- The worked figures of the rules hold: what is found is what is wanted.
use Rattle.std.specs.Prelude.{◌≡◌, refl, map}
use Rattle.rules.specs.Opened.{opened}
use Rattle.rules.specs.Cases.{found}
use Rattle.rules.specs.Figures.{figures}

pub all_figures : map found figures ≡ map (λ c. c.want) figures
unfolding opened figures
all_figures = refl
