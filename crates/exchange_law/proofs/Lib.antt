mod Once
mod OneTable
