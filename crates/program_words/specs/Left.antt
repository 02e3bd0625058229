-- The options that the words of a command spell.
use Rattle.std.specs.Prelude.{List, drop, map}
use Rattle.program_words.specs.declared.options.GivenOptions.{GivenOptions}
use Rattle.program_words.specs.Given.{Given, options_of}

abbrev pub options_in : GivenOptions → List Given
options_in options = options_of (drop 1 (map (λ word. word.now) options.words.now))
