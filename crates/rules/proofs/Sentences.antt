-- The sentences of the rules hold: what is found is what is wanted.
use Rattle.std.specs.Prelude.{◌≡◌, refl, map}
use Rattle.rules.specs.Opened.{opened}
use Rattle.rules.specs.Cases.{found}
use Rattle.rules.specs.Sentences.{code_cases, code_limit_cases, length_cases, machine_cases, meaning_cases, nesting_cases, sentences, syntax_cases, token_cases, walk_cases}

pub all_sentences : map found sentences ≡ map (λ c. c.want) sentences
unfolding opened sentences token_cases syntax_cases walk_cases meaning_cases code_cases machine_cases
all_sentences = refl

pub all_length : map found length_cases ≡ map (λ c. c.want) length_cases
unfolding opened length_cases
all_length = refl

pub all_nesting : map found nesting_cases ≡ map (λ c. c.want) nesting_cases
unfolding opened nesting_cases
all_nesting = refl

pub all_code_limit : map found code_limit_cases ≡ map (λ c. c.want) code_limit_cases
unfolding opened code_limit_cases
all_code_limit = refl
