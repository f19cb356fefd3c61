use Rattle.protect_table.proofs.Places.{short_name}
use Rattle.protect_table.proofs.wildcard.fits_name.Goals as goal

pub fits_word-requires : goal.fits_word-requires
fits_word-requires c = record { short = short_name c.as_bytes.result.now c.as_bytes.ensures.named }
