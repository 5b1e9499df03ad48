mod Subtasks
