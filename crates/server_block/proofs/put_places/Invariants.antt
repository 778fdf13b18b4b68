use Rattle.server_block.specs.Block.{place_line}
use Rattle.server_block.proofs.put_places.Given as goal

abbrev pub ghost-put_lines : goal.ghost-put_lines
ghost-put_lines a = place_line
