-- The words of an import, one round at a time.
use Rattle.std.specs.Prelude.{[], ◌∷◌}
use Rattle.rules.specs.Reader.{Reader, ◌>>=◌, span, rounds}
use Rattle.rules.specs.Bytes.{word}
use Rattle.rules.specs.Definitions.{Names, listed, word_round}

-- The words that `names` reads where no `*` stands.
unfoldable pub words : Reader Names
words = do
  w ← span word
  rounds word_round listed (w ∷ [])
