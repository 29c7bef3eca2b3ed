use Rattle.chart.proofs.PictureLaws.{picture_clear, heads_of_picture}
use Rattle.chart.proofs.laws.laws_of_texts.Goals as goal

pub returns-clause-rows : goal.returns-clause-rows
returns-clause-rows c = picture_clear

pub returns-clause-heads : goal.returns-clause-heads
returns-clause-heads c = heads_of_picture
